use Rattle.std.proofs.Common.{sym, ap, add-one, arith}
use Rattle.sparse.proofs.Chains.{prev, freed_all, freed_more}
use Rattle.sparse.proofs.nodes.ops.chain_up.Goals as goal

pub loop-at-preserved : goal.loop-at-preserved
loop-at-preserved g c =
    let ts = c.loop-at.tips in
    let i = c.loop-at.at in (
      ap prev (sym (add-one i)),
      freed_more ts i c.loop-at.head c.freed.result (omega arith) c.loop-at.invariant.0 c.freed.ensures.place c.freed.ensures.left c.loop-at.invariant.1,
    )

pub returns : goal.returns
returns g c = freed_all c.loop-at.at _ c.loop-at.head c.loop-at.tips (omega arith) c.loop-at.invariant.0 c.loop-at.invariant.1
