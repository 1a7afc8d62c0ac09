use Rattle.std.proofs.Common.{length, vec_len, subst}
use Rattle.mixed.specs.Mixeds.{mixed_ops}
use Rattle.mixed.specs.declared.mixed.Mixed.{Mixed}
use Rattle.token_pool.specs.Pools.{PoolModel}
use Rattle.engine.specs.Tables.{Table}
use Rattle.laws.specs.Law.{Law}
use Rattle.laws.proofs.NewTables.{same_table, large_new}
use Rattle.laws.proofs.large_scopes_and_counts.Goals as goal

pub returns : goal.returns
returns c =
    let n = large_new c.args.reach (vec_len c.args.nodes) (vec_len c.args.lists) (length c.args.entries.now) (length c.args.words.now) in (
      n,
      subst (λ (t : Table Mixed PoolModel). Law mixed_ops t)
          (same_table c.new-store.ensures.store c.new-pool.ensures c.new-state.ensures.0 c.limited-saves.ensures c.new-state.ensures.1)
          c.scopes_and_counts.ensures n,
    )
