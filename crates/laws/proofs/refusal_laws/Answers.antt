-- The laws hold of every kind of value, so of the one at hand.
use Rattle.laws.proofs.RefusalLaws.{refusal_laws}
use Rattle.laws.proofs.refusal_laws.Goals as goal

pub returns : goal.returns
returns g c = refusal_laws g.V.Value.ops
