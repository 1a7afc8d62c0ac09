use Rattle.std.proofs.Common.{sym, ap, ◌∙◌}
use Rattle.std.proofs.lemmas.Option.{slice_get_within}
use Rattle.sparse.specs.Listing.{over}
use Rattle.sparse.proofs.Frames.{listed_none}
use Rattle.sparse.proofs.Halves.{stands}
use Rattle.sparse.proofs.Overs.{over_head, over_half}
use Rattle.sparse.proofs.grow.+overwrite.Goals as goal

pub half-half-requires : goal.half-half-requires
half-half-requires g t c =
    stands c.args.part c.args.tips.now c.args.at c.in-Some.here (sym c.in-Some.ensures) c.requires

pub returns-in_default-clause-list : goal.returns-in_default-clause-list
returns-in_default-clause-list g t c =
    let none = listed_none c.args.part.level c.args.tips.now c.args.at (sym c.in_default.ensures) in
    none ∙ sym (ap (over c.args.place c.args.cell) none)

pub place_at-requires : goal.place_at-requires
place_at-requires g t c = slice_get_within c.args.tips.now c.args.at c.in-Some.here (sym c.in-Some.ensures)

pub returns-then-here-place : goal.returns-then-here-place
returns-then-here-place g t c =
    let q = c.args.part in
    let ts = c.args.tips.now in
    let d = over_head c.args.place c.args.cell q.level ts c.args.at q.low q.end c.in-Some.here (sym c.in-Some.ensures) c.requires c.if-here-place.true in
    rw c.place_at.ensures record { list = d.list; tree = d.tree; frame = λ j. d.frame j tt }

pub returns-else-here-place : goal.returns-else-here-place
returns-else-here-place g t c =
    let y = c.overwrite.ensures in
    let d = over_half c.args.place c.args.cell c.side-side.result c.args.part c.half-half.result c.args.tips.now c.overwrite.new.tips c.args.at c.child.result c.in-Some.here
    c.half-half.ensures (sym c.in-Some.ensures) c.requires c.child.ensures c.if-here-place.false c.side-side.ensures y.list y.tree y.frame in
    record { list = d.list; tree = d.tree; frame = λ j. d.frame j tt }
