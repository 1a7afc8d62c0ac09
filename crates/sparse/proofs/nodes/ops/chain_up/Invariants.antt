use Rattle.std.proofs.Common.{◌≡◌}
use Rattle.sparse.proofs.Chains.{prev, Freed}
use Rattle.sparse.proofs.nodes.ops.chain_up.Given as goal

abbrev pub invariant-loop-at : goal.invariant-loop-at
invariant-loop-at g l = (l.head ≡ prev l.at) × Freed l.tips l.at
