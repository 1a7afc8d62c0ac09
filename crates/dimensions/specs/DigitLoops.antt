-- TeX's two loops over the digits of a fraction, as sections 102 and 103 of TeX: The Program have them.
use Rattle.std.specs.Prelude.{ℕ, zero, suc, ◌+◌, ◌-◌, ◌*◌, ◌/◌, ◌%◌, true, false, cond, List, [], ◌∷◌, nat_le, nat_lt}

-- the loop of section 102, from the last digit to the first, before its last halving
abbrev pub gathered : List ℕ → ℕ
gathered [] = 0
gathered (d ∷ ds) = (gathered ds + d * 131072) / 10

-- what the digits read as, by section 102
abbrev pub rounded : List ℕ → ℕ
rounded ds = (gathered ds + 1) / 2

-- what is left to print, rounded where the next digit is the last that can count
abbrev pub eased : ℕ → ℕ → ℕ
eased s d = cond (nat_lt 65536 d) (s - 17232) s

-- the loop of section 103: the digits of s at the precision d, in at most n turns
abbrev pub digits_of : ℕ → ℕ → ℕ → List ℕ
digits_of zero s d = []
digits_of (suc n) s d =
    let t = eased s d in
    t / 65536 ∷ elim (nat_le (10 * (t % 65536)) (10 * d)) [ true ↦ [] | false ↦ digits_of n (10 * (t % 65536)) (10 * d) ]

-- the digits that section 103 prints for f scaled points, fewer than a point: they are never as many as ten
unfoldable pub fraction : ℕ → List ℕ
fraction f = digits_of 10 (10 * f + 5) 10
