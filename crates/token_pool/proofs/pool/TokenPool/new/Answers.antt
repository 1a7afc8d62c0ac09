use Rattle.std.proofs.Common.{◌≡◌, min, ap, ◌∙◌, arith}
use Rattle.std.proofs.lemmas.List.{with_items_is}
use Rattle.token_pool.specs.Pools.{empty_pool}
use Rattle.token_pool.specs.Nodes.{top_nodes}
use Rattle.token_pool.specs.Meanings.{pool_of}
use Rattle.token_pool.proofs.Lists.{clear_all}
use Rattle.token_pool.proofs.Models.{model_empty}
use Rattle.token_pool.proofs.pool.TokenPool.new.Goals as goal

pub invariant_of-result : goal.invariant_of-result
invariant_of-result c =
    let f = c.of_all-free in
    rw (with_items_is c.truncate.new.self f.new.nodes (omega arith))
    (record { whole = (clear_all f.new.nodes f.result (omega arith) f.ensures.all f.ensures.chain f.ensures.owners).0 })

pub returns : goal.returns
unfolding pool_of
returns c =
    let f = c.of_all-free in
    let m : f.result.count ≡ min c.args.nodes.len top_nodes = omega arith in
    rw (with_items_is c.truncate.new.self f.new.nodes (omega arith))
    (model_empty f.new.nodes f.result.count (clear_all f.new.nodes f.result (omega arith) f.ensures.all f.ensures.chain f.ensures.owners).1 ∙ ap empty_pool m)
