-- What a table means.
use Rattle.std.specs.Prelude.{ℕ, Option}
use Rattle.tokens.specs.declared.group.Group.{Group}
use Rattle.stores.specs.Stores.{StoreModel}
use Rattle.save_stack.specs.Stacks.{StackModel}
use Rattle.save_stack.specs.declared.entry.Entry.{Entry}
use Rattle.engine.specs.declared.nesting.Nesting.{Nesting}

-- a table over values V, whose pool means an M
pub record Table (V M : Type 0) : Type 0 where
  pub store : StoreModel V
  pub pool : M
  pub level : ℕ
  pub group : Option Group
  pub saves : StackModel (Entry V)
  pub pending : StackModel ℕ

-- the table that its parts make up
abbrev pub table_of : {V M : Type 0} → StoreModel V → M → Nesting → StackModel (Entry V) → StackModel ℕ → Table V M
table_of s m n e q = record { store = s; pool = m; level = n.level; group = n.group; saves = e; pending = q }

-- how deep it is in groups
abbrev pub nesting_of : {V M : Type 0} → Table V M → Nesting
nesting_of t = record { level = t.level; group = t.group }
