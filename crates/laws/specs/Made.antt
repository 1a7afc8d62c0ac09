-- Tables as they are made.
use Rattle.std.specs.Prelude.{ℕ, min}
use Rattle.tokens.specs.Limits.{top_reach, top_entries}
use Rattle.values.specs.Ops.{Ops}
use Rattle.values.specs.Plains.{plain_ops}
use Rattle.mixed.specs.Mixeds.{mixed_ops}
use Rattle.mixed.specs.declared.mixed.Mixed.{Mixed}
use Rattle.token_pool.specs.Nodes.{top_nodes}
use Rattle.token_pool.specs.Pools.{PoolModel, empty_pool}
use Rattle.sparse.specs.Chain.{top_nodes as top_cells}
use Rattle.sparse.specs.Sparses.{blank_store}
use Rattle.stores.specs.Flats.{blank_row}
use Rattle.save_stack.specs.Stacks.{empty}
use Rattle.engine.specs.Nestings.{bottom}
use Rattle.engine.specs.Tables.{Table, table_of}
use Rattle.values.specs.declared.plain.Plain.{Plain}
use Rattle.laws.specs.Calls.{New}
use Rattle.laws.specs.Law.{ScopesAndCounts}

-- a table of the small model, made of so many cells, entries and pending words
abbrev pub small_table : ℕ → ℕ → ℕ → Table Plain (Unit {0})
small_table cells entries words = table_of (blank_row plain_ops (min cells top_reach)) tt bottom (empty (min entries top_entries)) (empty words)

-- a table of the large model, made of so many places, store nodes, list nodes, entries and pending words
abbrev pub large_table : ℕ → ℕ → ℕ → ℕ → ℕ → Table Mixed PoolModel
large_table reach nodes lists entries words =
    table_of (blank_store mixed_ops (min reach top_reach) (min nodes top_cells)) (empty_pool (min lists top_nodes)) bottom (empty (min entries top_entries)) (empty words)

-- a table is new, and obeys the law
abbrev pub NewAndLawful : {V M : Type 0} → Ops V M → Table V M → Type 0
NewAndLawful k t = New k t × ScopesAndCounts k t
