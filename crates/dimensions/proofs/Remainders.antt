-- Every fraction of a point reads back. After k digits 10^k f + 5 * 10^(k-1) is 65,536 times the number that they make, and a remainder r.
-- A last digit leaves an r of at most 10^k, and never 0, since 65,536 has more factors 2 than the left side.
-- So the digits stand for less than half a scaled point above f, or at most half of one below it, and both read as f.
use Rattle.std.proofs.Common.{◌≡◌, ℕ, zero, suc, ◌+◌, ◌-◌, ◌*◌, ◌/◌, ◌%◌, ◌<◌, ◌≤◌, Bool, true, false, leb, List, [], ◌∷◌, length, sym, subst, arith, lit≤, le-leb}
use native.Mathlib.Decide.{dec_le}
use borrow.Author.Tests.{lt-leb}
use Rattle.std.proofs.lemmas.Bool.Decides.{nat_tests}
use Rattle.std.specs.Int.Digits.{AllBelowBase}
use Rattle.dimensions.specs.Fractions.{nearest}
use Rattle.dimensions.specs.DigitLoops.{eased, digits_of, fraction}
use Rattle.dimensions.specs.Promises.{ReadsBack}

-- by cases of a test, each with what it tells
either : (x y : ℕ) (P : Bool → Type 0) → (x ≤ y → P true) → (y < x → P false) → P (leb x y)
either x y P f g =
    elim (dec_le x y) [
      | yes h ↦ subst P (sym (le-leb x y h)) (f h)
      | no h ↦ let l : y < x = omega arith in subst P (sym (lt-leb x y l)) (g l)
    ]

-- the digits read as f, and are at most five
abbrev Back : ℕ → List ℕ → Type 0
Back f ds = (nearest ds ≡ f) × (length ds ≤ 5)

-- the fifth digit is always the last, and is rounded: no more than 32,768 of 100,000 parts of a scaled point are missing or too many
fifth : (f a b c d r : ℕ) → 10000 * f + 5000 ≡ 65536 * (1000 * a + 100 * b + 10 * c + d) + r → r < 65536 → 10000 < r
    → Back f (a ∷ b ∷ c ∷ d ∷ digits_of 6 (10 * r) 100000)
fifth f a b c d r h l g =
    let t = 10 * r - 17232 in
    either (10 * (t % 65536)) (10 * 100000) (λ v. Back f (a ∷ b ∷ c ∷ d ∷ t / 65536 ∷ elim v [ true ↦ [] | false ↦ digits_of 5 (10 * (t % 65536)) (10 * 100000) ]))
    (λ m. (omega arith, lit≤ tt))
    (λ m. absurd (omega arith))

fourth : (f a b c r : ℕ) → 1000 * f + 500 ≡ 65536 * (100 * a + 10 * b + c) + r → r < 65536 → Back f (a ∷ b ∷ c ∷ digits_of 7 (10 * r) 10000)
fourth f a b c r h l =
    let t = 10 * r in
    either (10 * (t % 65536)) (10 * 10000) (λ v. Back f (a ∷ b ∷ c ∷ t / 65536 ∷ elim v [ true ↦ [] | false ↦ digits_of 6 (10 * (t % 65536)) (10 * 10000) ]))
    (λ m. (omega arith, lit≤ tt))
    (λ m. fifth f a b c (t / 65536) (t % 65536) (omega arith) (omega arith) (omega arith))

third : (f a b r : ℕ) → 100 * f + 50 ≡ 65536 * (10 * a + b) + r → r < 65536 → Back f (a ∷ b ∷ digits_of 8 (10 * r) 1000)
third f a b r h l =
    let t = 10 * r in
    either (10 * (t % 65536)) (10 * 1000) (λ v. Back f (a ∷ b ∷ t / 65536 ∷ elim v [ true ↦ [] | false ↦ digits_of 7 (10 * (t % 65536)) (10 * 1000) ]))
    (λ m. (omega arith, lit≤ tt))
    (λ m. fourth f a b (t / 65536) (t % 65536) (omega arith) (omega arith))

second : (f a r : ℕ) → 10 * f + 5 ≡ 65536 * a + r → r < 65536 → Back f (a ∷ digits_of 9 (10 * r) 100)
second f a r h l =
    let t = 10 * r in
    either (10 * (t % 65536)) (10 * 100) (λ v. Back f (a ∷ t / 65536 ∷ elim v [ true ↦ [] | false ↦ digits_of 8 (10 * (t % 65536)) (10 * 100) ]))
    (λ m. (omega arith, lit≤ tt))
    (λ m. third f a (t / 65536) (t % 65536) (omega arith) (omega arith))

first : (f : ℕ) → Back f (digits_of 10 (10 * f + 5) 10)
first f =
    let t = 10 * f + 5 in
    either (10 * (t % 65536)) (10 * 10) (λ v. Back f (t / 65536 ∷ elim v [ true ↦ [] | false ↦ digits_of 9 (10 * (t % 65536)) (10 * 10) ]))
    (λ m. (omega arith, lit≤ tt))
    (λ m. second f (t / 65536) (t % 65536) (omega arith) (omega arith))

eased_le : (s d : ℕ) → eased s d ≤ s
eased_le s d = grind (arith, nat_tests)

-- each turn's digit is below ten
digits_under : (n s d : ℕ) → s ≤ 655355 → AllBelowBase 10 (digits_of n s d)
digits_under zero s d h = tt
digits_under (suc n) s d h =
    let t = eased s d in
    let g = eased_le s d in
    let more = digits_under n (10 * (t % 65536)) (10 * d) (omega arith) in
    (omega arith, elim (leb (10 * (t % 65536)) (10 * d)) as (λ b. AllBelowBase 10 (elim b [ true ↦ [] | false ↦ digits_of n (10 * (t % 65536)) (10 * d) ])) [ true ↦ tt | false ↦ more ])

pub reads_back : ReadsBack
unfolding fraction
reads_back f h =
    let b = first f in
    record { same = b.0; digits = digits_under 10 (10 * f + 5) 10 (omega arith); some = omega arith; few = b.1 }
