use Rattle.std.proofs.Common.{decimal, ap, lit<}
use Rattle.output.proofs.Pieces.{reads, begun, on, ends}
use Rattle.trace.proofs.parts.write_level.Goals as goal

pub returns : goal.returns
returns c = ends (lit< tt) (on (begun c.text.ensures) (reads (ap decimal c.saturating_sub.ensures) c.number.ensures)) c.text-2.ensures
