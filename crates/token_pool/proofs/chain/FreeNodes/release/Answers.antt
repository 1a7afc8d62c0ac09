use Rattle.std.proofs.Common.{inr, arith}
use Rattle.token_pool.proofs.Chains.{release_step}
use Rattle.token_pool.proofs.chain.FreeNodes.release.Goals as goal

pub loop-preserved : goal.loop-preserved
loop-preserved c =
    let i = c.loop.invariant in
    let s = release_step c.args.nodes.now c.loop.nodes c.args.list c.loop.i c.args.list c.args.count c.loop.counter c.loop.self
    c.requires.owned (omega arith) i.frees i.chain i.moved i.gone in
    rw (c.push.ensures.node, c.push.ensures.after) (record { frees = s.0; given = omega arith; chain = s.1; moved = s.2; gone = inr s.3 })
