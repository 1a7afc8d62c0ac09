use Rattle.std.proofs.Common.{ℕ, sym, ap, ◌∙◌}
use Rattle.sparse.specs.Trees.{listed}
use Rattle.sparse.specs.Listing.{found}
use Rattle.sparse.proofs.Halves.{stands}
use Rattle.sparse.proofs.Finds.{found_at, found_half}
use Rattle.sparse.proofs.seek.+find.Goals as goal

pub returns-then-here-place : goal.returns-then-here-place
returns-then-here-place g t c =
    let q = c.args.part in
    found_at q.level c.args.tips.now c.args.at q.low q.end c.args.place c.in_ok-here.here (sym c.in_ok-here.ensures) c.requires c.if-here-place.true

pub half-half-requires : goal.half-half-requires
half-half-requires g t c =
    stands c.args.part c.args.tips.now c.args.at c.in_ok-here.here (sym c.in_ok-here.ensures) c.requires

pub returns : goal.returns
returns g t c =
    c.find.ensures
    ∙ ap (λ (i : ℕ). found c.args.place (listed c.half-half.result.level c.args.tips.now i)) c.child.ensures
    ∙ found_half c.side-side.result c.args.part c.half-half.result c.args.tips.now c.args.at c.args.place c.in_ok-here.here c.half-half.ensures (sym c.in_ok-here.ensures) c.requires c.if-here-place.false c.side-side.ensures
