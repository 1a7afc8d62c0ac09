use Rattle.output.proofs.Rooms.{added}
use Rattle.output.proofs.writer.Writer.text.Goals as goal

pub returns : goal.returns
returns c = added c.min-start.result c.args.self.now.mark c.args.self.now.lost c.args.out.now c.min-start.ensures c.put_text-put.ensures
