use Rattle.dimensions.proofs.Rounding.{tex_rounds}
use Rattle.dimensions.proofs.promises.tex_rounds.Goals as goal

pub returns : goal.returns
returns c = tex_rounds
