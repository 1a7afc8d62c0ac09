-- What the calls write to the trace.
use Rattle.std.specs.Prelude.{ℕ, ◌+◌, Bool, true, false, cond, List, [], ◌∷◌, ◌++◌, Some, None, Option, nat_lt}
use Rattle.tokens.specs.declared.group.Group.{Group}
use Rattle.values.specs.Ops.{Ops}
use Rattle.stores.specs.declared.cell.Cell.{Cell}
use Rattle.save_stack.specs.declared.entry.Entry.{Entry}
use Rattle.save_stack.specs.declared.entry.Entry.TheVariants.{Saved, Held, Boundary}
use Rattle.trace.specs.Lines.{entering, leaving, restoring, retaining}
use Rattle.engine.specs.Tables.{Table}
use Rattle.engine.specs.Acts.{Act, opens, closes, drops, sets, holds, staying, unsaved, unheld, passes, tried}

-- leaving the current group
abbrev pub leaving_lines : Option Group → ℕ → List (List ℕ)
leaving_lines None l = []
leaving_lines (Some g) l = leaving g l ∷ []

module _ {V M : Type 0} (k : Ops V M) where
  -- a saved cell comes off the stack: the register as it then stands, restored or retained
  abbrev pub unsaved_lines : Bool → Bool → Table V M → ℕ → Cell V → M → List (List ℕ)
  unsaved_lines below stays t p c m = cond below (cond stays (retaining (k.shown (t.store.cells p).value m p)) (restoring (k.shown c.value m p)) ∷ []) []

  -- a group closes
  abbrev pub pop_lines : Bool → List (Entry V) → Table V M → List (List ℕ)
  pop_lines keep [] t = leaving_lines t.group t.level
  pop_lines keep (Saved p c ∷ es) t =
      unsaved_lines (nat_lt p t.store.reach) (staying k t p) t p c (unsaved k (nat_lt p t.store.reach) (staying k t p) t p c es).pool
      ++ pop_lines keep es (unsaved k (nat_lt p t.store.reach) (staying k t p) t p c es)
  pop_lines keep (Held c ∷ es) t = pop_lines keep es (unheld k keep t c es)
  pop_lines keep (Boundary g ∷ es) t = leaving_lines t.group t.level

  -- what a call writes where it is carried out
  abbrev pub act_lines : Act V → Table V M → List (List ℕ)
  act_lines (opens g) t = entering g (t.level + 1) ∷ []
  act_lines (closes kind l) t = pop_lines true t.saves.held t
  act_lines drops t = pop_lines false t.saves.held t
  act_lines (sets global p s) t = []
  act_lines (holds c) t = []

  -- what a call writes: nothing if it is refused
  abbrev pub lines_of : Act V → Table V M → List (List ℕ)
  lines_of a t = cond (passes k a t) (act_lines a t) []

  -- what calls write, one after the other
  abbrev pub all_lines : List (Act V) → Table V M → List (List ℕ)
  all_lines [] t = []
  all_lines (a ∷ xs) t = lines_of a t ++ all_lines xs (tried k a t)
