-- Turns of the loops that read and print digits.
use Rattle.std.proofs.Common.{◌≡◌, ℕ, suc, ◌+◌, ◌-◌, ◌*◌, ◌/◌, ◌%◌, ◌^◌, ◌<◌, ◌≤◌, min, Bool, true, false, cond, leb, ltb, List, [], ◌∷◌, ◌++◌, length, decimal, sym, refl, ap, ◌∙◌, append_assoc, mul_comm, pow-suc, add-one, arith, lit<, le-leb}
use native.Mathlib.Nat.{pow-le-pow_right}
use native.Mathlib.Decide.{dec_lt}
use borrow.Author.Tests.{lt-leb}
use Rattle.std.proofs.lemmas.List.{map_push, nil_from_length}
use Rattle.std.proofs.lemmas.Fmt.{decimal_digit}
use Rattle.output.specs.Text.{Out}
use Rattle.output.proofs.Pieces.{Stands}
use Rattle.dimensions.specs.DigitLoops.{eased, digits_of}
use Rattle.dimensions.specs.Dimensions.{shown}
use Rattle.dimensions.specs.Fractions.{capped}

-- the reading loop from a number that it has come to, over the digits that are left
abbrev pub onward : ℕ → List ℕ → ℕ
onward a [] = a
onward a (d ∷ ds) = (onward a ds + d * 131072) / 10

onward_push : (a x : ℕ) (ds : List ℕ) → onward a (ds ++ (x ∷ [])) ≡ onward ((a + x * 131072) / 10) ds
onward_push a x [] = refl
onward_push a x (d ∷ ds) = ap (λ (y : ℕ). (y + d * 131072) / 10) (onward_push a x ds)

-- one digit read, the last of those that were left
pub one_read : (a b x all : ℕ) (bs left : List ℕ) → x ≡ min b 9 → bs ≡ left ++ (b ∷ []) → onward a (capped bs) ≡ all → onward ((a + x * 131072) / 10) (capped left) ≡ all
one_read a b x all bs left e f i =
    ap (λ (y : ℕ). onward ((a + y * 131072) / 10) (capped left)) e ∙ sym (onward_push a (min b 9) (capped left))
    ∙ ap (onward a) (sym (map_push (λ (y : ℕ). min y 9) left b)) ∙ ap (λ (z : List ℕ). onward a (capped z)) (sym f) ∙ i

-- after the first digit
pub at_end : (a all : ℕ) (bs : List ℕ) → length bs ≡ 0 → onward a (capped bs) ≡ all → a ≡ all
at_end a all bs e i = ap (λ (z : List ℕ). onward a (capped z)) (sym (nil_from_length bs e)) ∙ i

-- what a turn leaves to print, if it is not the last
abbrev rest : ℕ → ℕ → ℕ → Bool → List ℕ
rest n s d b = elim b [ true ↦ [] | false ↦ digits_of n s d ]

unrolled : (k s d t : ℕ) → k < 5 → t ≡ eased s d
    → shown (digits_of (10 - k) s d) ≡ (48 + t / 65536) ∷ shown (rest (10 - (k + 1)) (10 * (t % 65536)) (10 * d) (leb (10 * (t % 65536)) (10 * d)))
unrolled k s d t h e =
    let f : 10 - k ≡ suc (10 - (k + 1)) = omega arith in
    ap (λ (n : ℕ). shown (digits_of n s d)) f
    ∙ ap (λ (u : ℕ). (48 + u / 65536) ∷ shown (rest (10 - (k + 1)) (10 * (u % 65536)) (10 * d) (leb (10 * (u % 65536)) (10 * d)))) (sym e)

-- rounding takes nothing below what is left
eased_within : (s d : ℕ) → eased s d ≤ s
eased_within s d = elim (ltb 65536 d) as (λ (b : Bool). cond b (s - 17232) s ≤ s) [ true ↦ omega arith | false ↦ omega arith ]

-- what is left has one whole digit
pub one_digit : (s d t : ℕ) → s ≤ 655355 → t ≡ eased s d → decimal (t / 65536) ≡ (48 + t / 65536) ∷ []
one_digit s d t h e = decimal_digit (t / 65536) (omega (arith, eased_within s d))

-- the digits that are written, and those that are to come
pub record Half (o s : Out) (all : List ℕ) (left precision : ℕ) : Type 0 where
  pub turns : ℕ
  pub done : List ℕ
  pub few : turns < 5
  pub power : precision ≡ 10 ^ (turns + 1)
  pub written : Stands done o s
  pub together : done ++ shown (digits_of (10 - turns) left precision) ≡ all

-- the last digit
pub last : (k s d t : ℕ) (done all : List ℕ) → k < 5 → t ≡ eased s d → 10 * (t % 65536) ≤ d * 10
    → done ++ shown (digits_of (10 - k) s d) ≡ all → done ++ ((48 + t / 65536) ∷ []) ≡ all
last k s d t done all h e g i =
    let x = 48 + t / 65536 in
    ap (λ (z : List ℕ). done ++ z)
    (sym (unrolled k s d t h e ∙ ap (λ (b : Bool). x ∷ shown (rest (10 - (k + 1)) (10 * (t % 65536)) (10 * d) b)) (le-leb (10 * (t % 65536)) (10 * d) (omega arith))))
    ∙ i

-- a digit, and more to come
pub turn : (k s d t : ℕ) (done all : List ℕ) → k < 5 → t ≡ eased s d → d * 10 < 10 * (t % 65536)
    → done ++ shown (digits_of (10 - k) s d) ≡ all
    → (done ++ ((48 + t / 65536) ∷ [])) ++ shown (digits_of (10 - (k + 1)) (10 * (t % 65536)) (d * 10)) ≡ all
turn k s d t done all h e g i =
    let x = 48 + t / 65536 in
    let s' = 10 * (t % 65536) in
    let more = λ (n : ℕ). shown (digits_of (10 - (k + 1)) s' n) in
    append_assoc done (x ∷ []) (more (d * 10))
    ∙ ap (λ (n : ℕ). done ++ (x ∷ more n)) (mul_comm d 10)
    ∙ ap (λ (z : List ℕ). done ++ z)
    (sym (unrolled k s d t h e ∙ ap (λ (b : Bool). x ∷ shown (rest (10 - (k + 1)) s' (10 * d) b)) (lt-leb s' (10 * d) (omega arith))))
    ∙ i

-- the precision is a power of ten, and one turn on it is the next
pub next_power : (d k : ℕ) → d ≡ 10 ^ (k + 1) → d * 10 ≡ 10 ^ (k + 1 + 1)
next_power d k e = ap (λ (x : ℕ). x * 10) e ∙ sym (ap (λ (n : ℕ). 10 ^ n) (add-one (k + 1)) ∙ pow-suc 10 (k + 1))

-- so five digits are the most that can be asked for
pub before_six : (d s k : ℕ) → d ≡ 10 ^ (k + 1) → d < s → s ≤ 655355 → k < 5
before_six d s k e h g =
    elim (dec_lt k 5) [ yes l ↦ l | no l ↦ (let m : 10 ^ 6 ≤ 10 ^ (k + 1) = pow-le-pow_right (lit< tt) {i = 6} {j = k + 1} (omega arith) in absurd (omega (arith, m, e, h, g))) ]
