-- What registers read as.
use Rattle.std.specs.Prelude.{ℕ, ◌+◌, Bool, true, false, List, [], ◌∷◌, length, ℤ, pos, negsuc, Some, None, Option, ◌==◌, nat_le, unsigned_abs}
use Rattle.tokens.specs.Codes.{all_codes}
use Rattle.tokens.specs.Limits.{top_number, top_dimension}
use Rattle.tokens.specs.declared.class.Class.{Class}
use Rattle.tokens.specs.declared.class.Class.TheVariants.{Count, Dimen, Toks}
use Rattle.values.specs.declared.scalar.Scalar.{Scalar}
use Rattle.values.specs.declared.scalar.Scalar.TheVariants.{Number, Dimension}

-- a number, a dimension in scaled points, or a list of token codes
pub data Reading : Type 0 where
  number : ℤ → Reading
  dimension : ℤ → Reading
  tokens : List ℕ → Reading

-- what zero reads as at a register of a class
abbrev pub zero_at : Class → Reading
zero_at Count = number (pos 0)
zero_at Dimen = dimension (pos 0)
zero_at Toks = tokens []

-- whether a number is 0
abbrev pub is_nil : ℤ → Bool
is_nil (pos n) = n == 0
is_nil (negsuc n) = false

-- whether a reading is the zero of its class
abbrev pub nil : Reading → Bool
nil (number z) = is_nil z
nil (dimension z) = is_nil z
nil (tokens ts) = length ts == 0

-- whether a reading is within its bounds
abbrev pub in_bounds : Reading → Bool
in_bounds (number z) = nat_le (unsigned_abs z) top_number
in_bounds (dimension z) = nat_le (unsigned_abs z) top_dimension
in_bounds (tokens ts) = all_codes ts

-- whether registers of a class read so
abbrev pub suits : Reading → Class → Bool
suits (number z) Count = true
suits (number z) Dimen = false
suits (number z) Toks = false
suits (dimension z) Count = false
suits (dimension z) Dimen = true
suits (dimension z) Toks = false
suits (tokens ts) Count = false
suits (tokens ts) Dimen = false
suits (tokens ts) Toks = true

-- the nodes that a new list takes: one for each token, and one more
abbrev pub cost : Reading → ℕ
cost (number z) = 0
cost (dimension z) = 0
cost (tokens []) = 0
cost (tokens (t ∷ ts)) = length ts + 2

-- a scalar as a reading
abbrev pub of_scalar : Scalar → Reading
of_scalar (Number z) = number z
of_scalar (Dimension z) = dimension z

-- a reading as a scalar, unless it is a list
abbrev pub scalar_of : Reading → Option Scalar
scalar_of (number z) = Some (Number z)
scalar_of (dimension z) = Some (Dimension z)
scalar_of (tokens ts) = None

-- the tokens of a reading, none if it is no list
abbrev pub tokens_of : Reading → List ℕ
tokens_of (number z) = []
tokens_of (dimension z) = []
tokens_of (tokens ts) = ts

-- how many they are
abbrev pub tokens_count : Reading → ℕ
tokens_count r = length (tokens_of r)
