use Rattle.std.proofs.Common.{◌≡◌, ◌+◌, ◌-◌, ◌⊎◌}
use Rattle.token_pool.specs.Nodes.{top_nodes, at, Chain, Frees, Moved}
use Rattle.token_pool.proofs.chain.FreeNodes.release.Given as goal

abbrev pub invariant-loop : goal.invariant-loop
invariant-loop l = record {
  frees : Frees l.nodes l.self;
  given : l.self.count ≡ l.initial.self.count + l.counter;
  chain : Chain l.nodes l.list l.i (l.count - l.counter);
  moved : Moved l.initial.nodes l.nodes l.list top_nodes;
  gone : ((l.counter ≡ 0) × (l.i ≡ l.list)) ⊎ ((at l.nodes l.list).owner ≡ top_nodes);
}
