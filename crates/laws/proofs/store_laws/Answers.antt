-- The laws hold of every store, so of the one at hand.
use Rattle.laws.proofs.StoreLaws.{store_laws}
use Rattle.laws.proofs.store_laws.Goals as goal

pub returns : goal.returns
returns g c = store_laws g.V.Value.ops.is_zero (g.S.Store.model c.args.store.now)
