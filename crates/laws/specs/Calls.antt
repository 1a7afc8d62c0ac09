-- The calls with their arguments, and what each counts as.
use Rattle.std.specs.Prelude.{◌≡◌, ℕ, ◌+◌, ◌-◌, ◌≤◌, max, true, false, List, [], ◌∷◌, replicate}
use Rattle.tokens.specs.Limits.{top_reach, top_entries}
use Rattle.tokens.specs.declared.group.Group.{Group}
use Rattle.tokens.specs.declared.group.GroupKind.{GroupKind}
use Rattle.values.specs.Ops.{Ops}
use Rattle.stores.specs.Cells.{cell}
use Rattle.engine.specs.Tables.{Table}
use Rattle.engine.specs.Acts.{Source, Act, opens, closes, drops, sets, holds}

-- a call with its arguments
pub data Call (V : Type 0) : Type 0 where
  open_group : Group → Call V
  close_group : GroupKind → ℕ → Call V
  unwind : ℕ → Call V
  assign : ℕ → Source V → Call V
  assign_globally : ℕ → Source V → Call V
  save_for_after : ℕ → Call V

-- what a call on a table counts as: unwinding is so many closes, each other call is itself.
-- A run of a text will be one more call here, which counts as the acts that its statements stand for; nothing else of the law speaks of single calls
abbrev pub acts : {V M : Type 0} → Call V → Table V M → List (Act V)
acts (open_group g) t = opens g ∷ []
acts (close_group kind l) t = closes kind l ∷ []
acts (unwind l) t = replicate ((t.level + 1) - max l 2) drops
acts (assign p s) t = sets false p s ∷ []
acts (assign_globally p s) t = sets true p s ∷ []
acts (save_for_after c) t = holds c ∷ []

-- a new table: every cell is blank, no list is in use, nothing is saved, outside all groups
pub record New {V M : Type 0} (k : Ops V M) (t : Table V M) : Type 0 where
  pub blanks : (p : ℕ) → t.store.cells p ≡ cell k.zero 1
  pub unused : (b : ℕ) → k.uses t.pool b ≡ 0
  pub bottom : t.level ≡ 1
  pub bare : t.saves.held ≡ []
  pub reaches : t.store.reach ≤ top_reach
  pub rooms : t.saves.room ≤ top_entries
