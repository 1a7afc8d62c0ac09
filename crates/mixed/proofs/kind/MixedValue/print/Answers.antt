use Rattle.output.proofs.Pieces.{answered}
use Rattle.mixed.proofs.kind.MixedValue.print.Goals as goal

pub returns : goal.returns
returns c = answered c.new-writer.ensures c.into_put.ensures.size c.into_put.ensures.whole c.write_register-whole.ensures
