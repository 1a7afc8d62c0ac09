use Rattle.std.proofs.Common.{lit<}
use Rattle.output.proofs.Pieces.{reads, begun, on, ends}
use Rattle.values.proofs.name.write_name.Goals as goal

pub returns : goal.returns
returns c = ends (lit< tt) (on (on (begun c.text.ensures) (reads c.name.ensures c.text-2.ensures)) c.number.ensures) c.text-3.ensures
