use Rattle.std.proofs.Common.{sym, ◌∙◌, arith}
use Rattle.std.proofs.lemmas.List.{with_items_is}
use Rattle.std.proofs.lemmas.Option.{none-some}
use Rattle.sparse.specs.Held.{held}
use Rattle.sparse.proofs.Chains.{nodes_tree, less_sound}
use Rattle.sparse.proofs.nodes.Nodes.take.Goals as goal

pub remove-cut-requires : goal.remove-cut-requires
unfolding held
remove-cut-requires g c =
    rw c.deref_mut.ensures.value record {
      tree = nodes_tree c.args.self.now c.whole-part.result c.whole-part.ensures;
      held = rw c.whole-part.ensures.level (λ e. none-some c.args.cell (sym e ∙ c.requires));
    }

pub invariant_of-self : goal.invariant_of-self
unfolding held
invariant_of-self g c =
    let s = c.args.self.now in
    let us = c.remove-cut.new.tips in
    let cut = c.remove-cut.result in
    let y = c.remove-cut.ensures in
    let k = less_sound s c.whole-part.result c.whole-part.ensures c.deref_mut.result.now us _ c.deref_mut.ensures.value (with_items_is s.tips us (omega arith)) cut.root cut.free c.args.place c.args.cell c.freed-spent.result
    c.requires c.freed-spent.ensures.place c.freed-spent.ensures.left y.list y.tree y.spent y.frame in
    record { near = s.near; row = s.row; few = k.few; chain = k.chain; tree = k.tree }

pub returns-clause-list : goal.returns-clause-list
unfolding held
returns-clause-list g c =
    let s = c.args.self.now in
    let us = c.remove-cut.new.tips in
    let cut = c.remove-cut.result in
    let y = c.remove-cut.ensures in
    let k = less_sound s c.whole-part.result c.whole-part.ensures c.deref_mut.result.now us _ c.deref_mut.ensures.value (with_items_is s.tips us (omega arith)) cut.root cut.free c.args.place c.args.cell c.freed-spent.result
    c.requires c.freed-spent.ensures.place c.freed-spent.ensures.left y.list y.tree y.spent y.frame in
    k.list
