use Rattle.std.proofs.Common.{◌≡◌, ℕ, Option, None, sym, ap, ◌∙◌, arith}
use Rattle.sparse.specs.Trees.{listed}
use Rattle.sparse.specs.Listing.{first_from}
use Rattle.sparse.specs.declared.node.Node.{Node}
use Rattle.sparse.specs.declared.part.Side.TheVariants.{Left, Right}
use Rattle.sparse.proofs.Halves.{stands}
use Rattle.sparse.proofs.Finds.{or_else, from_at, from_halves, from_high}
use Rattle.sparse.proofs.seek.+first_from.Goals as goal
use Rattle.sparse.proofs.seek.+first_from.Goals.{then-place-middle+in_default, else-place-middle}

pub returns-then-place-past : goal.returns-then-place-past
returns-then-place-past g t c =
    let q = c.args.part in
    from_at q.level c.args.tips.now c.args.at q.low q.end c.args.place c.in_ok-here.here (sym c.in_ok-here.ensures) c.requires c.if-place-past.true

pub half-left-requires : goal.half-left-requires
half-left-requires g t c =
    stands c.args.part c.args.tips.now c.args.at c.in_ok-here.here (sym c.in_ok-here.ensures) c.requires

pub returns-in-Some : goal.returns-in-Some
returns-in-Some g t c =
    let x = c.in_ok-here.here in
    let rest = first_from c.args.place (listed c.half-left.result.level c.args.tips.now x.right) in
    sym (from_halves Left c.args.part c.half-left.result c.args.tips.now c.args.at c.args.place x c.half-left.ensures (sym c.in_ok-here.ensures) c.requires c.if-place-past.false
    ∙ ap (λ (o : Option (Node _)). or_else o rest) (sym c.in-Some.ensures))

pub half-requires : goal.half-requires
half-requires g t c =
    stands c.args.part c.args.tips.now c.args.at c.in_ok-here.here (sym c.in_ok-here.ensures) c.requires

pub returns : goal.returns
returns g t c =
    let q = c.args.part in
    let h = c.half.result in
    let ts = c.args.tips.now in
    let p = c.args.place in
    let x = c.in_ok-here.here in
    let now = sym c.in_ok-here.ensures in
    let none : first_from p (listed h.level ts x.left) ≡ None =
    elim c.if-place-middle.branch [
      | then-place-middle+in_default w ↦ (
          let a = w.half-left.ensures.up in
          let b = c.half.ensures.up in
          let e : h.level ≡ w.half-left.result.level = omega arith in
          ap (λ (n : ℕ). first_from p (listed n ts x.left)) e ∙ sym w.in_default.ensures)
      | else-place-middle w ↦ from_high Right q h ts c.args.at p x c.half.ensures now c.requires c.if-place-past.false (omega (arith, w.if-place-middle.false))
    ] in
    c.first_from-2.ensures
    ∙ sym (from_halves Right q h ts c.args.at p x c.half.ensures now c.requires c.if-place-past.false ∙ ap (λ (o : Option (Node _)). or_else o (first_from p (listed h.level ts x.right))) none)
