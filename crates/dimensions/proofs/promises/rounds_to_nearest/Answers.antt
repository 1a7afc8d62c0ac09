use Rattle.dimensions.proofs.Rounding.{rounds_to_nearest}
use Rattle.dimensions.proofs.promises.rounds_to_nearest.Goals as goal

pub returns : goal.returns
returns c = rounds_to_nearest
