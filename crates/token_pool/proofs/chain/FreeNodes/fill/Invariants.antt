use Rattle.std.proofs.Common.{◌≡◌, ◌+◌, ◌-◌, length, drop}
use Rattle.token_pool.specs.Nodes.{top_nodes, Chain, Frees, tokens_from, Moved}
use Rattle.token_pool.proofs.chain.FreeNodes.fill.Given as goal

abbrev pub invariant-loop-left : goal.invariant-loop-left
invariant-loop-left l = record {
  frees : Frees l.nodes l.self;
  taken : l.self.count + length l.yielded ≡ l.initial.self.count;
  chain : Chain l.nodes l.owner l.first (length l.yielded);
  holds : tokens_from l.nodes l.first (length l.yielded) ≡ drop (length l.tokens - length l.yielded) l.tokens;
  moved : Moved l.initial.nodes l.nodes top_nodes l.owner;
}
