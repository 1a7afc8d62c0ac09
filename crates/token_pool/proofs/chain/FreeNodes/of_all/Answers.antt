use Rattle.std.proofs.Common.{arith}
use Rattle.token_pool.proofs.Chains.{fresh_chain}
use Rattle.token_pool.proofs.chain.FreeNodes.of_all.Goals as goal

pub returns-clause-chain : goal.returns-clause-chain
returns-clause-chain c =
    let i = c.loop-i.invariant in
    rw (i.first, i.count) (fresh_chain c.loop-i.nodes c.loop-i.i (omega arith) i.written)
