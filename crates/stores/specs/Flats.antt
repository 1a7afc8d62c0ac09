-- A row of cells as a store: every blank one can be filled.
use Rattle.std.specs.Prelude.{ℕ, Bool, List, length, count_by, slice_index_or}
use Rattle.values.specs.Ops.{Ops}
use Rattle.stores.specs.Cells.{cell, is_blank}
use Rattle.stores.specs.Stores.{StoreModel}
use Rattle.stores.specs.declared.cell.Cell.{Cell}

-- how many of a row pass a test
abbrev pub count : {C : Type 0} → (C → Bool) → List C → ℕ
count = count_by

-- a row of cells as a store
abbrev pub row : {V M : Type 0} → Ops V M → List (Cell V) → StoreModel V
row k cs = record {
  reach = length cs;
  cells = λ q. slice_index_or cs q (cell k.zero 1);
  spare = count (is_blank k.is_zero) cs;
}

-- a store of n blank cells
abbrev pub blank_row : {V M : Type 0} → Ops V M → ℕ → StoreModel V
blank_row k n = record { reach = n; cells = λ q. cell k.zero 1; spare = n }
