use Rattle.std.proofs.Common.{◌-◌, ◌%◌, ◌≤◌}
use Rattle.output.specs.Writers.{out_of}
use Rattle.dimensions.specs.DigitLoops.{fraction}
use Rattle.dimensions.specs.Dimensions.{shown}
use Rattle.dimensions.proofs.DigitSteps.{Half}
use Rattle.dimensions.proofs.printing.write_fraction.Given as goal

abbrev pub invariant-loop-left : goal.invariant-loop-left
invariant-loop-left l = record {
  left_fits : l.left ≤ 655355;
  precision_starts : 10 ≤ l.precision;
  precision_fits : l.precision ≤ 655355;
  half : Half (out_of l.initial.writer l.initial.out) (out_of l.writer l.out) (shown (fraction (l.size % 65536))) l.left l.precision;
}

abbrev pub decreases-loop-left : goal.decreases-loop-left
decreases-loop-left l = 655360 - l.precision
