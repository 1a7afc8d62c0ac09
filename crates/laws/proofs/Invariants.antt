-- What holds of every table that calls reach.
use Rattle.std.proofs.Common.{◌≡◌, ℕ, suc, ◌+◌, ◌<◌, ◌≤◌, Bool, cond, List, [], ◌∷◌, length, ap, arith}
use Rattle.tokens.specs.Limits.{top_reach, top_entries}
use Rattle.values.specs.Readings.{Reading}
use Rattle.values.specs.Ops.{Ops, Stands, one}
use Rattle.values.specs.Laws.{Laws}
use Rattle.engine.specs.Tables.{Table}
use Rattle.save_stack.specs.declared.entry.Entry.{Entry}
use Rattle.save_stack.specs.declared.entry.Entry.TheVariants.{Saved, Held, Boundary}
use Rattle.laws.specs.Law.{places, entries}
use Rattle.laws.proofs.Fates.{fate, fate_held}
use Rattle.laws.proofs.Places.{place_held}

-- the places of the saved cells are below n
abbrev pub Within : {V : Type 0} → ℕ → List (Entry V) → Type 0
Within n [] = Unit
Within n (Saved p c ∷ es) = (p < n) × Within n es
Within n (Held c ∷ es) = Within n es
Within n (Boundary g ∷ es) = Within n es

-- what holds even while a group is being closed
pub record Inner {V M : Type 0} (k : Ops V M) (t : Table V M) : Type 0 where
  pub counted : (b : ℕ) → k.uses t.pool b ≡ places k b t.store.reach t.store.cells + entries k b t.saves.held
  -- once n more groups are closed, no cell is above the level then
  pub low : (n p : ℕ) → suc n < t.level → (fate (suc n) p t.saves.held (t.store.cells p)).level + suc n ≤ t.level
  pub inside : Within t.store.reach t.saves.held
  pub far : t.store.reach ≤ top_reach
  pub small : length t.saves.held + t.saves.room ≤ top_entries

-- what holds between calls
pub record Sound {V M : Type 0} (k : Ops V M) (t : Table V M) : Type 0 where
  pub inner : Inner k t
  pub flat : (p : ℕ) → (t.store.cells p).level ≤ t.level
  pub up : 1 ≤ t.level

module _ {V M : Type 0} (k : Ops V M) where
  -- what the register q will read as once n groups are closed
  abbrev pub promise : ℕ → Table V M → ℕ → Reading
  promise n t q = k.reads (fate n q t.saves.held (t.store.cells q)).value t.pool q

  -- the list of the value, if it names one, is in use
  abbrev pub Rests : V → M → Type 0
  Rests v m = (b : ℕ) → one k b v ≤ k.uses m b

  -- what is in use is there
  pub rests_stands : Laws k → (v : V) (m : M) → Rests v m → Stands k v m
  rests_stands laws v m h b e =
      let d : one k b v ≡ 1 = ap (λ (s : Bool). cond s 1 0) e in
      let g = h b in
      laws.used_there m b (omega arith)

  -- what a register will hold is in use
  pub fate_rests : (t : Table V M) → Inner k t → (n q : ℕ) → q < t.store.reach → Rests (fate n q t.saves.held (t.store.cells q)).value t.pool
  fate_rests t s n q h b =
      let a = fate_held k b n q t.saves.held (t.store.cells q) in
      let c = place_held k b t.store.reach q t.store.cells h in
      let d = s.counted b in
      omega arith
