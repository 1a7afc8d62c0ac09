-- Cells.
use Rattle.std.specs.Prelude.{ℕ, Bool, ◌&&◌, ◌==◌}
use Rattle.stores.specs.declared.cell.Cell.{Cell}

-- a value at a level
abbrev pub cell : {V : Type 0} → V → ℕ → Cell V
cell v l = record { value = v; level = l }

-- a cell is blank if it holds zero at level 1
abbrev pub blank : {V : Type 0} → (V → Bool) → V → ℕ → Bool
blank is_zero v l = is_zero v && l == 1

-- the same of a cell
abbrev pub is_blank : {V : Type 0} → (V → Bool) → Cell V → Bool
is_blank is_zero c = blank is_zero c.value c.level
