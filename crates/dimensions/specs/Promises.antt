-- What reading and printing dimensions promises, for every input.
use Rattle.std.specs.Prelude.{◌≡◌, ℕ, ◌+◌, ◌*◌, ◌^◌, ◌<◌, ◌≤◌, Bool, true, cond, List, [], ◌++◌, length, ℤ, pos, neg_ℤ, codes, decimal, unsigned_abs}
use Rattle.std.specs.Str.Parse.{IsNumeral, digits_value}
use Rattle.std.specs.Int.Digits.{AllBelowBase}
use Rattle.tokens.specs.Limits.{top_dimension}
use Rattle.dimensions.specs.Fractions.{made, nearest}
use Rattle.dimensions.specs.DigitLoops.{rounded, fraction}
use Rattle.dimensions.specs.Dimensions.{shown, dimension}

-- n scaled points are the nearest to the fraction that the digits make, and of two equally near the larger
pub record Nearest (ds : List ℕ) (n : ℕ) : Type 0 where
  pub not_above : 2 * 10 ^ length ds * n ≤ 2 * 65536 * made ds + 10 ^ length ds
  pub not_below : 2 * 65536 * made ds + 10 ^ length ds < 2 * 10 ^ length ds * (n + 1)

-- digits read as the nearest scaled point, however many they are
abbrev pub RoundsToNearest : Type 0
RoundsToNearest = (ds : List ℕ) → Nearest ds (nearest ds)

-- section 102 of TeX: The Program gives the same
abbrev pub TexRounds : Type 0
TexRounds = (ds : List ℕ) → rounded ds ≡ nearest ds

-- what f scaled points print as, one to five digits, reads back as f
pub record FractionBack (f : ℕ) : Type 0 where
  pub same : nearest (fraction f) ≡ f
  pub digits : AllBelowBase 10 (fraction f)
  pub some : 1 ≤ length (fraction f)
  pub few : length (fraction f) ≤ 5

-- every fraction of a point, printed, reads back
abbrev pub ReadsBack : Type 0
ReadsBack = (f : ℕ) → f < 65536 → FractionBack f

-- a dimension prints as an optional `-`, whole points, a point, one to five digits and the unit, and these read back as it
pub record DimensionBack (z : ℤ) : Type 0 where
  pub negative : Bool
  pub whole : ℕ
  pub digits : List ℕ
  pub prints : dimension z ≡ cond negative (codes "-") [] ++ decimal whole ++ codes "." ++ shown digits ++ codes "pt"
  pub numeral : IsNumeral 10 (decimal whole) × (digits_value 10 (decimal whole) ≡ whole)
  pub under : AllBelowBase 10 digits
  pub some : 1 ≤ length digits
  pub few : length digits ≤ 5
  pub size : whole * 65536 + nearest digits ≡ unsigned_abs z
  pub same : cond negative (neg_ℤ (pos (whole * 65536 + nearest digits))) (pos (whole * 65536 + nearest digits)) ≡ z
  pub minus : negative ≡ true → 0 < unsigned_abs z

-- every dimension, printed, reads back
abbrev pub DimensionReadsBack : Type 0
DimensionReadsBack = (z : ℤ) → unsigned_abs z ≤ top_dimension → DimensionBack z
