use Rattle.dimensions.proofs.Signs.{dimension_reads_back}
use Rattle.dimensions.proofs.promises.dimension_reads_back.Goals as goal

pub returns : goal.returns
returns c = dimension_reads_back
