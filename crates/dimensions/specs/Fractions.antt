-- Decimal fractions of a point, and the scaled points that they read as: 65,536 scaled points are one point.
use Rattle.std.specs.Prelude.{ℕ, ◌+◌, ◌*◌, ◌/◌, ◌^◌, min, List, [], ◌∷◌, map, length}

-- the number that digits make, the first the most weighty
abbrev pub made : List ℕ → ℕ
made [] = 0
made (d ∷ ds) = d * 10 ^ length ds + made ds

-- the whole part of 65,536 F / 10^k + 1/2, where F is the number that the k digits make
abbrev pub nearest : List ℕ → ℕ
nearest ds = (2 * 65536 * made ds + 10 ^ length ds) / (2 * 10 ^ length ds)

-- the digits that bytes count as: one above 9 counts as 9
abbrev pub capped : List ℕ → List ℕ
capped bs = map (λ b. min b 9) bs
