-- A negative number is its sign and its size.
use Rattle.std.proofs.Common.{◌≡◌, ℕ, ◌^◌, ◌<◌, ◌∷◌, length, ℤ, pos, negsuc, nat_abs, ◌<ℤ◌, decimal, ap, arith}
use Rattle.std.specs.Fmt.{signed_decimal}
use Rattle.std.proofs.lemmas.Fmt.{decimal_nonempty}
use Rattle.std.proofs.lemmas.Int.{ints}

pub signed_below : (z : ℤ) (n : ℕ) → z <ℤ pos 0 → n ≡ nat_abs z → 45 ∷ decimal n ≡ signed_decimal z
signed_below (pos k) n h e = absurd (omega (arith, ints))
signed_below (negsuc k) n h e = ap (λ (m : ℕ). 45 ∷ decimal m) e

-- a number has at least one digit
pub signed_some : (z : ℤ) → nat_abs z < 2 ^ 64 → 0 < length (signed_decimal z)
signed_some (pos n) h = decimal_nonempty n h
signed_some (negsuc n) h = omega arith
