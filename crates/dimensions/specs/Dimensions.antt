-- How a dimension prints.
use Rattle.std.specs.Prelude.{ℕ, suc, ◌+◌, ◌/◌, ◌%◌, List, ◌++◌, map, ℤ, pos, negsuc, codes, decimal}
use Rattle.dimensions.specs.DigitLoops.{fraction}

-- digits as bytes
abbrev pub shown : List ℕ → List ℕ
shown ds = map (λ d. 48 + d) ds

-- a size in scaled points: whole points, a point, a fraction, the unit
abbrev pub points : ℕ → List ℕ
points n = decimal (n / 65536) ++ codes "." ++ shown (fraction (n % 65536)) ++ codes "pt"

-- a dimension in scaled points: its size, with `-` if it is negative
abbrev pub dimension : ℤ → List ℕ
dimension (pos n) = points n
dimension (negsuc n) = codes "-" ++ points (suc n)
