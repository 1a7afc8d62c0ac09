use Rattle.output.proofs.Rooms.{added}
use Rattle.trace.proofs.parts.write_register.Goals as goal

pub returns : goal.returns
returns g c = added c.min-start.result c.args.writer.now.mark c.args.writer.now.lost c.args.out.now c.min-start.ensures c.print-put.ensures
