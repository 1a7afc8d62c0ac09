-- How many places levels cover.
use Rattle.std.proofs.Common.{◌≡◌, ℕ, zero, suc, ◌-◌, ◌/◌, refl, ap, ◌∙◌, arith}
use Rattle.sparse.specs.Trees.{width}

-- half of a level is the level below
half_of : (n : ℕ) → width (suc n) / 2 ≡ width n
half_of zero = refl
half_of (suc n) = omega arith

pub width_half : (n : ℕ) → width n / 2 ≡ width (n - 1)
width_half zero = refl
width_half (suc n) = let e : n ≡ suc n - 1 = omega arith in half_of n ∙ ap width e
