use Rattle.std.proofs.Common.{arith}
use Rattle.std.proofs.lemmas.List.{with_items_is}
use Rattle.sparse.specs.Held.{held}
use Rattle.sparse.proofs.Chains.{nodes_tree, over_sound}
use Rattle.sparse.proofs.nodes.Nodes.set.Goals as goal

pub overwrite-requires : goal.overwrite-requires
overwrite-requires g c = rw c.deref_mut.ensures.value (nodes_tree c.args.self.now c.whole-part.result c.whole-part.ensures)

pub invariant_of-self : goal.invariant_of-self
invariant_of-self g c =
    let s = c.args.self.now in
    let us = c.overwrite.new.tips in
    let y = c.overwrite.ensures in
    let k = over_sound s c.whole-part.result c.whole-part.ensures c.deref_mut.result.now us _ c.deref_mut.ensures.value (with_items_is s.tips us (omega arith)) c.args.place c.args.cell y.list y.tree y.frame in
    record { near = s.near; row = s.row; few = k.few; chain = k.chain; tree = k.tree }

pub returns-clause-list : goal.returns-clause-list
unfolding held
returns-clause-list g c =
    let s = c.args.self.now in
    let us = c.overwrite.new.tips in
    let y = c.overwrite.ensures in
    let k = over_sound s c.whole-part.result c.whole-part.ensures c.deref_mut.result.now us _ c.deref_mut.ensures.value (with_items_is s.tips us (omega arith)) c.args.place c.args.cell y.list y.tree y.frame in
    k.list
