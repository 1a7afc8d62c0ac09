-- What a store means: how many places there are, what stands at each, and how many blank cells can still be filled.
use Rattle.std.specs.Prelude.{ℕ, zero, suc, ◌+◌, ◌-◌, Bool, cond, not, ◌&&◌, Some, None, Ok, Err, Option, Result, ◌==◌, nat_lt}
use Rattle.stores.specs.Cells.{is_blank}
use Rattle.stores.specs.declared.cell.Cell.{Cell}
use Rattle.stores.specs.declared.fault.StoreFault.{StoreFault}
use Rattle.stores.specs.declared.fault.StoreFault.TheVariants.{Beyond, Full}

-- the meaning of a store
pub record StoreModel (V : Type 0) : Type 0 where
  pub reach : ℕ
  pub cells : ℕ → Cell V
  pub spare : ℕ

-- a function with one of its values changed
abbrev pub put : {C : Type 0} → (ℕ → C) → ℕ → C → ℕ → C
put f p c q = cond (p == q) c (f q)

-- the cell at a place below the reach
abbrev pub cell_at : {V : Type 0} → StoreModel V → ℕ → Option (Cell V)
cell_at s p = cond (nat_lt p s.reach) (Some (s.cells p)) None

-- filling a blank cell takes one off the spare, blanking one adds one
abbrev pub spare_after : Bool → Bool → ℕ → ℕ
spare_after was is n = cond was (cond is n (n - 1)) (cond is (n + 1) n)

-- whether writing a cell that is blank, or not, would fill a blank one with no spare
abbrev pub full : {V : Type 0} → (V → Bool) → StoreModel V → ℕ → Bool → Bool
full is_zero s p is = is_blank is_zero (s.cells p) && (not is && s.spare == 0)

-- why a write is refused, if it is
abbrev pub verdict : {V : Type 0} → (V → Bool) → StoreModel V → ℕ → Bool → Result Unit StoreFault
verdict is_zero s p is = cond (nat_lt p s.reach) (cond (full is_zero s p is) (Err (Full p)) (Ok tt)) (Err (Beyond p))

-- the store with a cell written
abbrev pub written : {V : Type 0} → (V → Bool) → StoreModel V → ℕ → Cell V → StoreModel V
written is_zero s p c = record {
  reach = s.reach;
  cells = put s.cells p c;
  spare = spare_after (is_blank is_zero (s.cells p)) (is_blank is_zero c) s.spare;
}

-- the same, where nothing changes if the write is refused for want of spare
abbrev pub refilled : {V : Type 0} → (V → Bool) → StoreModel V → ℕ → Cell V → StoreModel V
refilled is_zero s p c = cond (full is_zero s p (is_blank is_zero c)) s (written is_zero s p c)

-- a write: nothing changes if it is refused
abbrev pub writes : {V : Type 0} → (V → Bool) → StoreModel V → ℕ → Cell V → StoreModel V
writes is_zero s p c = cond (nat_lt p s.reach) (refilled is_zero s p c) s

-- the first of n places from p on whose cell is not blank
abbrev pub scan : {V : Type 0} → (V → Bool) → (ℕ → Cell V) → ℕ → ℕ → Option ℕ
scan is_zero f p zero = None
scan is_zero f p (suc n) = cond (is_blank is_zero (f p)) (scan is_zero f (p + 1) n) (Some p)

-- the least filled place at or after p, if there is one
abbrev pub next_filled : {V : Type 0} → (V → Bool) → StoreModel V → ℕ → Option ℕ
next_filled is_zero s p = scan is_zero s.cells p (s.reach - p)
