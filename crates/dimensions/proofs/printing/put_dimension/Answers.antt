use Rattle.std.proofs.lemmas.Int.{to_z-of_z}
use Rattle.output.proofs.Pieces.{answered}
use Rattle.dimensions.proofs.printing.put_dimension.Goals as goal

pub returns : goal.returns
returns c =
    let f = c.ranges.n in
    answered c.new-writer.ensures c.into_put.ensures.size c.into_put.ensures.whole (simp to_z-of_z at c.write_dimension-whole.ensures)
