-- The nearest scaled point, and that TeX's loop gives it: a division after a division is one division.
use Rattle.std.proofs.Common.{◌≡◌, ℕ, ◌+◌, ◌*◌, ◌/◌, ◌^◌, ◌<◌, List, [], ◌∷◌, length, sym, refl, ap, ◌∙◌, mul_assoc, mul_comm, pow-suc, arith, lit≤}
use native.Mathlib.Nat.{add-mul-div_right, div-div-eq-div-mul, add-div_right, one-le-pow, mul-div-le, lt-mul-div-succ}
use Rattle.dimensions.specs.Fractions.{made}
use Rattle.dimensions.specs.DigitLoops.{gathered}
use Rattle.dimensions.specs.Promises.{RoundsToNearest, TexRounds}

ten_pos : (k : ℕ) → 0 < 10 ^ k
ten_pos k = one-le-pow k 10 (lit≤ tt)

pub rounds_to_nearest : RoundsToNearest
rounds_to_nearest ds =
    let m = 10 ^ length ds in
    let x = 2 * 65536 * made ds + m in
    record { not_above = mul-div-le x (2 * m); not_below = lt-mul-div-succ x (let p = ten_pos (length ds) in omega arith) }

joined : (q y m : ℕ) → y ≡ 131072 * q → 131072 * m + y ≡ 131072 * (q + m)
joined q y m e = omega arith

-- the loop before its last halving is the whole part of 131,072 F / 10^k
gathers : (ds : List ℕ) → gathered ds ≡ 131072 * made ds / 10 ^ length ds
gathers [] = refl
gathers (d ∷ ds) =
    let k = length ds in
    let m = made ds in
    ap (λ (x : ℕ). (x + d * 131072) / 10) (gathers ds)
    ∙ ap (λ (x : ℕ). x / 10) (sym (add-mul-div_right (131072 * m) (d * 131072) (ten_pos k)))
    ∙ div-div-eq-div-mul (131072 * m + d * 131072 * 10 ^ k) (10 ^ k) 10
    ∙ ap (λ (x : ℕ). x / (10 ^ k * 10)) (joined (d * 10 ^ k) (d * 131072 * 10 ^ k) m (ap (λ (x : ℕ). x * 10 ^ k) (mul_comm d 131072) ∙ mul_assoc 131072 d (10 ^ k)))
    ∙ ap (λ (x : ℕ). 131072 * (d * 10 ^ k + m) / x) (sym (pow-suc 10 k))

pub tex_rounds : TexRounds
tex_rounds ds =
    let n = 10 ^ length ds in
    let x = 131072 * made ds in
    ap (λ (y : ℕ). (y + 1) / 2) (gathers ds)
    ∙ ap (λ (y : ℕ). y / 2) (sym (add-div_right x (ten_pos (length ds))))
    ∙ div-div-eq-div-mul (x + n) n 2
    ∙ ap (λ (y : ℕ). (x + n) / y) (mul_comm n 2)
