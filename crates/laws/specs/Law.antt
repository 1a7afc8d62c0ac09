-- The law of scopes and counts, over any sequence of calls on a new table.
use Rattle.std.specs.Prelude.{◌≡◌, ℕ, zero, suc, ◌+◌, ◌<◌, true, List, [], ◌∷◌, ◌++◌}
use Rattle.values.specs.Ops.{Ops, one}
use Rattle.values.specs.Readings.{Reading}
use Rattle.stores.specs.declared.cell.Cell.{Cell}
use Rattle.save_stack.specs.declared.entry.Entry.{Entry}
use Rattle.save_stack.specs.declared.entry.Entry.TheVariants.{Saved, Held, Boundary}
use Rattle.engine.specs.Tables.{Table}
use Rattle.laws.specs.Calls.{Call, New}
use Rattle.laws.specs.Histories.{Event, end, global, Moment, events, untouched, Spans, Opened, after_calls, history}

-- how many of the places below n hold the list b
abbrev pub places : {V M : Type 0} → Ops V M → ℕ → ℕ → (ℕ → Cell V) → ℕ
places k b zero f = 0
places k b (suc n) f = one k b (f n).value + places k b n f

-- how many saved entries do
abbrev pub entries : {V M : Type 0} → Ops V M → ℕ → List (Entry V) → ℕ
entries k b [] = 0
entries k b (Saved p c ∷ es) = one k b c.value + entries k b es
entries k b (Held c ∷ es) = entries k b es
entries k b (Boundary g ∷ es) = entries k b es

module _ {V M : Type 0} (k : Ops V M) where
  -- what a register reads as
  abbrev pub reads : Table V M → ℕ → Reading
  reads t p = k.reads (t.store.cells p).value t.pool p

  -- every close ends a group that is open right before it
  abbrev pub ClosesMatch : Table V M → List (Call V) → Type 0
  ClosesMatch t calls = (earlier later : List (Moment V M)) (closing : Moment V M) → history k calls t ≡ earlier ++ (closing ∷ later) → closing.what ≡ end → Opened earlier

  -- right after its close, a register that was not assigned globally inside the group reads as at its opening
  abbrev pub GroupsRestore : Table V M → List (Call V) → Type 0
  GroupsRestore t calls = (opening closing : Moment V M) (inside : List (Moment V M)) → Spans (history k calls t) opening inside closing →
      (p : ℕ) → p < t.store.reach → untouched p (events inside) ≡ true →
      reads closing.table p ≡ reads opening.table p

  -- and one that was reads as the last of these assignments set it
  abbrev pub GroupsRetain : Table V M → List (Call V) → Type 0
  GroupsRetain t calls = (opening closing : Moment V M) (inside : List (Moment V M)) → Spans (history k calls t) opening inside closing →
      (p : ℕ) → p < t.store.reach →
      (earlier later : List Event) (r : Reading) → events inside ≡ earlier ++ (global p r ∷ later) → untouched p later ≡ true →
      reads closing.table p ≡ r

  -- the count of every list is the number of registers and saved entries that hold it
  abbrev pub Counted : Table V M → Type 0
  Counted t = (b : ℕ) → k.uses t.pool b ≡ places k b t.store.reach t.store.cells + entries k b t.saves.held

  -- so it is after the calls, and after each thing that they carry out
  abbrev pub ListsCounted : Table V M → List (Call V) → Type 0
  ListsCounted t calls = Counted (after_calls k calls t) ×
      ((before rest : List (Moment V M)) (now : Moment V M) → history k calls t ≡ before ++ (now ∷ rest) → Counted now.table)

  -- all this of any calls on a table
  abbrev pub ScopesAndCounts : Table V M → Type 0
  ScopesAndCounts t = (calls : List (Call V)) → ClosesMatch t calls × GroupsRestore t calls × GroupsRetain t calls × ListsCounted t calls

  -- the law: so it is if the table is new
  abbrev pub Law : Table V M → Type 0
  Law t = New k t → ScopesAndCounts t
