-- What users of a store rely on.
use Rattle.std.specs.Prelude.{◌≡◌, ℕ, zero, suc, ◌+◌, ◌<◌, ◌≤◌, Bool, true, false, cond, List, [], ◌∷◌, Some, None, Ok, Err, ◌≢◌}
use Rattle.stores.specs.Cells.{is_blank}
use Rattle.stores.specs.Stores.{StoreModel, cell_at, verdict, writes, next_filled}
use Rattle.stores.specs.declared.cell.Cell.{Cell}
use Rattle.stores.specs.declared.fault.StoreFault.{StoreFault}

-- a write with its arguments
pub record Write (V : Type 0) : Type 0 where
  pub place : ℕ
  pub cell : Cell V

-- how many of the first n places are filled
abbrev pub filled_below : {V : Type 0} → (V → Bool) → ℕ → (ℕ → Cell V) → ℕ
filled_below is_zero zero f = 0
filled_below is_zero (suc n) f = cond (is_blank is_zero (f n)) 0 1 + filled_below is_zero n f

-- how many places of a store are filled
abbrev pub filled : {V : Type 0} → (V → Bool) → StoreModel V → ℕ
filled is_zero s = filled_below is_zero s.reach s.cells

-- a store after some writes, refused ones included
abbrev pub after_writes : {V : Type 0} → (V → Bool) → StoreModel V → List (Write V) → StoreModel V
after_writes is_zero s [] = s
after_writes is_zero s (w ∷ ws) = after_writes is_zero (writes is_zero s w.place w.cell) ws

module _ {V : Type 0} (is_zero : V → Bool) (s : StoreModel V) where
  -- spare and filled places always add up to the same number
  abbrev pub AddsUp : Type 0
  AddsUp = (ws : List (Write V)) → (after_writes is_zero s ws).spare + filled is_zero (after_writes is_zero s ws) ≡ s.spare + filled is_zero s

  -- what was written is what is read, and no other place changes
  abbrev pub ReadsBack : Type 0
  ReadsBack = (p q : ℕ) (c : Cell V) → verdict is_zero s p (is_blank is_zero c) ≡ Ok tt →
      (cell_at (writes is_zero s p c) p ≡ Some c) × ((p ≢ q) → cell_at (writes is_zero s p c) q ≡ cell_at s q)

  -- a refused write changes nothing
  abbrev pub RefusedStays : Type 0
  RefusedStays = (p : ℕ) (c : Cell V) (f : StoreFault) → verdict is_zero s p (is_blank is_zero c) ≡ Err f → writes is_zero s p c ≡ s

  -- the next filled place is the least filled one, if there is one
  abbrev pub FindsLeast : Type 0
  FindsLeast = (from : ℕ)
      → ((p : ℕ) → next_filled is_zero s from ≡ Some p → (from ≤ p) × (p < s.reach) × (is_blank is_zero (s.cells p) ≡ false) × ((q : ℕ) → from ≤ q → q < p → is_blank is_zero (s.cells q) ≡ true))
      × (next_filled is_zero s from ≡ None → (q : ℕ) → from ≤ q → q < s.reach → is_blank is_zero (s.cells q) ≡ true)

  -- all of these
  abbrev pub StoreLaws : Type 0
  StoreLaws = AddsUp × ReadsBack × RefusedStays × FindsLeast
