-- The law holds of every table, so of the one that the arguments make up.
use Rattle.save_stack.specs.Meanings.{stack_of}
use Rattle.engine.specs.Tables.{table_of}
use Rattle.laws.proofs.Laws.{law}
use Rattle.laws.proofs.scopes_and_counts.Goals as goal

pub returns : goal.returns
returns g c = law g.V.Value.ops g.met.V.Value.lawful
    (table_of (g.S.Store.model c.args.store.now) (g.V.Value.meaning c.args.pool.now) c.args.state.now.nesting
    (stack_of c.args.saves.now) (stack_of c.args.state.now.pending))
