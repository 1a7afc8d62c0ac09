use Rattle.std.proofs.Common.{◌∙◌, add-one, arith}
use Rattle.std.proofs.lemmas.List.{with_items_is}
use Rattle.token_pool.specs.Nodes.{at}
use Rattle.token_pool.specs.Meanings.{pool_of}
use Rattle.token_pool.proofs.Chains.{head_in}
use Rattle.token_pool.proofs.Lists.{room}
use Rattle.token_pool.proofs.Models.{there_owns, length_held, removes}
use Rattle.token_pool.proofs.pool.TokenPool.remove.Goals as goal

pub overflow_add-count : goal.overflow_add-count
unfolding pool_of
overflow_add-count c =
    let p = c.args.self.now in
    let o = there_owns p.nodes.items p.free.count c.args.list c.requires in
    omega (arith, length_held p.nodes.items p.free.count c.args.list o, room p.nodes.items c.args.list p.free p.whole o)

pub release-requires : goal.release-requires
unfolding pool_of
release-requires c =
    let p = c.args.self.now in
    let b = c.args.list in
    let o = there_owns p.nodes.items p.free.count b c.requires in
    let n = c.length-count.ensures ∙ length_held p.nodes.items p.free.count b o in
    let r = room p.nodes.items b p.free p.whole o in
    let l = head_in p.nodes.items b o in
    rw (c.deref_mut.ensures.value, n) (record {
      owned = omega (arith, p.whole.few);
      frees = p.whole.frees;
      chain = rw (add-one (at p.nodes.items b).left) (p.whole.heads b o).1;
      room = omega arith;
    })

pub invariant_of-self : goal.invariant_of-self
unfolding pool_of
invariant_of-self c =
    let p = c.args.self.now in
    let r = c.release in
    let e = rw c.deref_mut.ensures.value at r.ensures in
    rw (with_items_is p.nodes r.new.nodes (omega arith))
    (record { whole = (removes p.nodes.items r.new.nodes c.args.list c.length-count.result p.free r.new.self p.whole c.requires c.length-count.ensures (omega arith) e.more e.frees e.moved e.gone).0 })

pub returns : goal.returns
unfolding pool_of
returns c =
    let p = c.args.self.now in
    let r = c.release in
    let e = rw c.deref_mut.ensures.value at r.ensures in
    rw (with_items_is p.nodes r.new.nodes (omega arith))
    (removes p.nodes.items r.new.nodes c.args.list c.length-count.result p.free r.new.self p.whole c.requires c.length-count.ensures (omega arith) e.more e.frees e.moved e.gone).1
