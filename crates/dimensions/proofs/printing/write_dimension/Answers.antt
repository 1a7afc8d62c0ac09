use Rattle.std.proofs.Common.{arith}
use Rattle.std.proofs.lemmas.Int.{ints, to_z-of_z}
use Rattle.output.proofs.Pieces.{begun, reads, ends}
use Rattle.dimensions.proofs.Signs.{dimension_below, dimension_above, points_some, handed}
use Rattle.dimensions.proofs.printing.write_dimension.Goals as goal
use Rattle.dimensions.proofs.printing.write_dimension.Goals.{then-n-lt0, else-n-lt0}

pub returns : goal.returns
returns c =
    let f = c.ranges.n in
    let m = c.unsigned_abs.result in
    let e = simp to_z-of_z at c.unsigned_abs.ensures.value in
    elim c.if-n-lt0.branch [
      | then-n-lt0 w ↦
          reads (dimension_below c.args.n m (omega (arith, ints)) e)
          (ends (points_some m) (begun w.text.ensures) (handed w.writer-is w.out-is c.write_points.ensures))
      | else-n-lt0 w ↦ reads (dimension_above c.args.n m (omega (arith, ints)) e) (handed w.writer-is w.out-is c.write_points.ensures)
    ]
