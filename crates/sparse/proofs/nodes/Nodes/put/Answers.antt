use Rattle.std.proofs.Common.{arith}
use Rattle.std.proofs.lemmas.List.{with_items_is}
use Rattle.sparse.specs.Held.{held}
use Rattle.sparse.proofs.Chains.{nodes_tree, head_lt, head_is, fresh, more_sound}
use Rattle.sparse.proofs.nodes.Nodes.put.Goals as goal

pub index-requires : goal.index-requires
index-requires g c =
    let s = c.args.self.now in
    let l = head_lt s.loose s.tips.items s.free c.requires.loose s.chain in
    omega (arith, s.tips.ok.0)

pub insert-self-requires-clause-tree : goal.insert-self-requires-clause-tree
insert-self-requires-clause-tree g c = rw c.deref_mut.ensures.value (nodes_tree c.args.self.now c.whole-part.result c.whole-part.ensures)

pub insert-self-requires-clause-absent : goal.insert-self-requires-clause-absent
unfolding held
insert-self-requires-clause-absent g c = rw (c.deref_mut.ensures.value, c.whole-part.ensures.level) c.requires.absent

pub insert-self-requires-clause-free : goal.insert-self-requires-clause-free
insert-self-requires-clause-free g c =
    let s = c.args.self.now in
    rw (c.deref_mut.ensures.value, c.whole-part.ensures.end)
    (fresh s.tips.items s.free s.loose s.reach c.index.result.now s.near c.requires.loose s.chain (head_is s.loose s.tips.items s.free c.index.result.now c.requires.loose s.chain c.index.ensures))

pub invariant_of-self : goal.invariant_of-self
invariant_of-self g c =
    let s = c.args.self.now in
    let us = c.insert-self.new.tips in
    let y = c.insert-self.ensures in
    let now = head_is s.loose s.tips.items s.free c.index.result.now c.requires.loose s.chain c.index.ensures in
    let k = more_sound s c.whole-part.result c.whole-part.ensures c.deref_mut.result.now us _ c.deref_mut.ensures.value (with_items_is s.tips us (omega arith)) c.insert-self.result c.args.node c.index.result.now
    c.requires.loose now y.list y.tree y.frame in
    record { near = s.near; row = s.row; few = k.few; chain = k.chain; tree = k.tree }

pub returns-clause-list : goal.returns-clause-list
unfolding held
returns-clause-list g c =
    let s = c.args.self.now in
    let us = c.insert-self.new.tips in
    let y = c.insert-self.ensures in
    let now = head_is s.loose s.tips.items s.free c.index.result.now c.requires.loose s.chain c.index.ensures in
    let k = more_sound s c.whole-part.result c.whole-part.ensures c.deref_mut.result.now us _ c.deref_mut.ensures.value (with_items_is s.tips us (omega arith)) c.insert-self.result c.args.node c.index.result.now
    c.requires.loose now y.list y.tree y.frame in
    k.list
