use Rattle.std.proofs.Common.{refl, inl, inr, arith, rules}
use Rattle.std.proofs.lemmas.List.{with_items_is}
use Rattle.token_pool.specs.Nodes.{nodes_pool}
use Rattle.token_pool.specs.Meanings.{pool_of}
use Rattle.token_pool.proofs.pool.TokenPool.make.Goals as goal
use Rattle.token_pool.proofs.pool.TokenPool.make.Goals.{then-is_empty-via-then-is_empty, then-is_empty-via-else-is_empty+then-tokens-self}

pub returns-then-is_empty : goal.returns-then-is_empty
unfolding pool_of nodes_pool
returns-then-is_empty c = (
  refl,
  elim c.then-is_empty.branch [
    | then-is_empty-via-then-is_empty w ↦ inl (search rules)
    | then-is_empty-via-else-is_empty+then-tokens-self w ↦ inr (omega arith)
  ],
)

pub returns : goal.returns
unfolding pool_of nodes_pool
returns c =
    let e = rw c.deref_mut.ensures.value at c.build.ensures in
    rw (with_items_is c.args.self.now.nodes c.build.new.nodes (omega arith)) (search rules, e.absent, omega arith, e.after)
