use Rattle.std.proofs.Common.{lit<}
use Rattle.output.proofs.Pieces.{begun, on, ends}
use Rattle.dimensions.proofs.printing.write_points.Goals as goal

pub returns : goal.returns
returns c = ends (lit< tt) (on (on (begun c.number.ensures) c.text.ensures) c.write_fraction.ensures) c.text-2.ensures
