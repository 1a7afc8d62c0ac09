use Rattle.std.proofs.Common.{◌<◌, length, refl, ◌∙◌, arith}
use Rattle.std.proofs.lemmas.List.{get_or_default}
use Rattle.token_pool.specs.Nodes.{none}
use Rattle.token_pool.specs.Meanings.{pool_of}
use Rattle.token_pool.proofs.Chains.{head_in}
use Rattle.token_pool.proofs.Models.{there_owns, counts_to}
use Rattle.token_pool.proofs.pool.TokenPool.recount.Goals as goal

pub index_mut-requires : goal.index_mut-requires
unfolding pool_of
index_mut-requires c =
    let p = c.args.self.now in
    let l : c.args.list < length p.nodes.items = head_in p.nodes.items c.args.list (there_owns p.nodes.items p.free.count c.args.list c.requires) in
    omega arith

pub invariant_of-self : goal.invariant_of-self
unfolding pool_of
invariant_of-self c =
    let p = c.args.self.now in
    let b = c.args.list in
    let o = there_owns p.nodes.items p.free.count b c.requires in
    let e = c.index_mut.ensures.value ∙ get_or_default p.nodes.items b _ (none b) (head_in p.nodes.items b o) in
    rw e (record { whole = (counts_to p.nodes.items p.free b c.args.count p.whole o).0 })

pub returns : goal.returns
unfolding pool_of
returns c =
    let p = c.args.self.now in
    let b = c.args.list in
    let o = there_owns p.nodes.items p.free.count b c.requires in
    let e = c.index_mut.ensures.value ∙ get_or_default p.nodes.items b _ (none b) (head_in p.nodes.items b o) in
    rw e (record { pool = (counts_to p.nodes.items p.free b c.args.count p.whole o).1; nodes = refl })
