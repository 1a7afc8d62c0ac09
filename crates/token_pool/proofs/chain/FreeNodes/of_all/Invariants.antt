use Rattle.std.proofs.Common.{◌≡◌, ℕ, ◌-◌, ◌<◌}
use Rattle.token_pool.specs.Nodes.{at}
use Rattle.token_pool.proofs.Chains.{fresh}
use Rattle.token_pool.proofs.chain.FreeNodes.of_all.Given as goal

abbrev pub invariant-loop-i : goal.invariant-loop-i
invariant-loop-i l = record {
  count : l.free.count ≡ l.i;
  first : l.free.first ≡ l.i - 1;
  written : (j : ℕ) → j < l.i → at l.nodes j ≡ fresh j;
}
