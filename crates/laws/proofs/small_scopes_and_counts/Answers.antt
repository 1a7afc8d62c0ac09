use Rattle.std.proofs.Common.{length, refl, subst}
use Rattle.values.specs.Plains.{plain_ops}
use Rattle.values.specs.declared.plain.Plain.{Plain}
use Rattle.engine.specs.Tables.{Table}
use Rattle.laws.specs.Law.{Law}
use Rattle.laws.proofs.NewTables.{same_table, small_new}
use Rattle.laws.proofs.small_scopes_and_counts.Goals as goal

pub returns : goal.returns
returns c =
    let n = small_new (length c.args.cells.now) (length c.args.entries.now) (length c.args.words.now) in (
      n,
      subst (λ (t : Table Plain (Unit {0})). Law plain_ops t)
          (same_table c.new-store.ensures refl c.new-state.ensures.0 c.limited-saves.ensures c.new-state.ensures.1)
          c.scopes_and_counts.ensures n,
    )
