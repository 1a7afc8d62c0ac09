use Rattle.dimensions.proofs.Remainders.{reads_back}
use Rattle.dimensions.proofs.promises.reads_back.Goals as goal

pub returns : goal.returns
returns c = reads_back
