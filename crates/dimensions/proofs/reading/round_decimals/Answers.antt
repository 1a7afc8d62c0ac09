use Rattle.std.proofs.Common.{ℕ, ◌+◌, ◌/◌, ap, ◌∙◌, arith}
use Rattle.dimensions.specs.Fractions.{capped}
use Rattle.dimensions.specs.DigitLoops.{gathered}
use Rattle.dimensions.proofs.Rounding.{tex_rounds}
use Rattle.dimensions.proofs.DigitSteps.{one_read, at_end}
use Rattle.dimensions.proofs.reading.round_decimals.Goals as goal

pub loop-digit-preserved : goal.loop-digit-preserved
loop-digit-preserved c =
    let v = c.loop-digit in (
      tt,
      tt,
      omega arith,
      one_read v.a _ c.from.result (gathered (capped c.args.digits.now)) _ _ (c.from.ensures ∙ c.min.ensures) c.in-Some.ensures.steps v.invariant.3,
    )

pub returns : goal.returns
returns c =
    let v = c.loop-digit in
    let all = capped c.args.digits.now in
    ap (λ (x : ℕ). (x + 1) / 2) (at_end v.a (gathered all) _ c.in-None.ensures.steps.0 v.invariant.3) ∙ tex_rounds all
