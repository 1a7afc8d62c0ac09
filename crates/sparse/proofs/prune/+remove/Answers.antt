use Rattle.std.proofs.Common.{sym, ◌∙◌, arith, rules}
use Rattle.sparse.specs.Listing.{del}
use Rattle.sparse.specs.Trees.{listed}
use Rattle.sparse.proofs.Halves.{stands, half_tree}
use Rattle.sparse.proofs.Finds.{found_half}
use Rattle.sparse.proofs.Cuts.{Pruned, held_lt, held_is, del_head, removed_in}
use Rattle.sparse.proofs.prune.+remove.Goals as goal

pub bounds-tips-at : goal.bounds-tips-at
bounds-tips-at g t c = held_lt c.args.part.level c.args.tips.now c.args.at c.args.place c.requires.held

pub offset_bounds-tips-at : goal.offset_bounds-tips-at
offset_bounds-tips-at g t c =
    let l = held_lt c.args.part.level c.args.tips.now c.args.at c.args.place c.requires.held in
    search rules

pub unroot-requires-clause-here : goal.unroot-requires-clause-here
unroot-requires-clause-here g t c = held_is c.args.part.level c.args.tips.now c.args.at c.args.place c.index-tips-at.result c.requires.held c.index-tips-at.is

pub returns-then-here-place-clause-list : goal.returns-then-here-place-clause-list
returns-then-here-place-clause-list g t c =
    let q = c.args.part in
    let ts = c.args.tips.now in
    let now = held_is q.level ts c.args.at c.args.place c.index-tips-at.result c.requires.held c.index-tips-at.is in
    c.unroot.ensures.list ∙ del_head q.level ts c.args.at q.low q.end c.args.place c.index-tips-at.result now c.requires.tree c.if-here-place.true

pub half-half-requires : goal.half-half-requires
half-half-requires g t c =
    let ts = c.args.tips.now in
    let now = held_is c.args.part.level ts c.args.at c.args.place c.index-tips-at.result c.requires.held c.index-tips-at.is in
    stands c.args.part ts c.args.at c.index-tips-at.result now c.requires.tree

pub remove-cut-requires : goal.remove-cut-requires
remove-cut-requires g t c κs within =
    let ts = c.args.tips.now in
    let up = c.half-half.ensures.up in
    let now = held_is c.args.part.level ts c.args.at c.args.place c.index-tips-at.result c.requires.held c.index-tips-at.is in
    let below = found_half c.side-side.result c.args.part c.half-half.result ts c.args.at c.args.place c.index-tips-at.result c.half-half.ensures now c.requires.tree c.if-here-place.false c.side-side.ensures in
    let h = half_tree c.side-side.result c.args.part c.half-half.result ts c.args.at c.index-tips-at.result c.half-half.ensures now c.requires.tree in
    rw c.child.ensures (omega arith, (within, (h, (λ e. c.requires.held (sym below ∙ e)))))

pub returns : goal.returns
returns g t c =
    let q = c.args.part in
    let h = c.half-half.result in
    let ts = c.args.tips.now in
    let us = c.remove-cut.new.tips in
    let cut = c.remove-cut.result in
    let y = c.remove-cut.ensures in
    let l = held_lt q.level ts c.args.at c.args.place c.requires.held in
    let now = held_is q.level ts c.args.at c.args.place c.index-tips-at.result c.requires.held c.index-tips-at.is in
    let below : Pruned h.level ts us cut.root cut.free h.low h.end c.args.spent (del c.args.place (listed h.level ts c.child.result)) =
    record { list = y.list; tree = y.tree; spent = y.spent; inside = y.inside; frame = y.frame } in
    let d = removed_in c.side-side.result q h ts us c.args.at c.child.result cut.root cut.free c.args.place c.index-tips-at.result c.args.spent c.half-half.ensures now c.requires.tree (omega arith)
    c.child.ensures c.requires.held c.if-here-place.false c.side-side.ensures below in
    rw (c.place_at.ensures, c.with.ensures) record { list = d.list; tree = d.tree; spent = d.spent; inside = d.inside; frame = d.frame }
