use Rattle.std.proofs.Common.{◌≡◌, ◌<◌}
use Rattle.std.specs.Slice.Iter.{iter_rest}
use Rattle.std.specs.Iterator.Adapters.{rev_source}
use Rattle.dimensions.specs.Fractions.{capped}
use Rattle.dimensions.specs.DigitLoops.{gathered}
use Rattle.dimensions.proofs.DigitSteps.{onward}
use Rattle.dimensions.proofs.reading.round_decimals.Given as goal

abbrev pub invariant-loop-digit : goal.invariant-loop-digit
invariant-loop-digit l =
    (goal.iterator-loop-digit).can_next l.digit-iterator × (goal.iterator-loop-digit).is_finite l.digit-iterator
    × (l.a < 131072) × (onward l.a (capped (iter_rest (rev_source l.digit-iterator))) ≡ gathered (capped l.digits))
