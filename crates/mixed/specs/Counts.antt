-- What making, taking and dropping do to the counts and the lists of a pool.
use Rattle.std.specs.Prelude.{◌≡◌, ℕ, ◌+◌, ◌-◌, ◌<◌, ◌≤◌, Bool, true, false, cond, ltb, List, ◌∷◌, length, ◌==◌, nat_le, nat_lt, refl}
use Rattle.std.proofs.Common.{sym, ◌∙◌, ap, inl, inr, arith}
use Rattle.std.proofs.lemmas.Bool.{both_ways, eqb-true, eq-eqb, leb-true, leb-false, lt-ltb, cases_Bool, cond-true, cond-false}
use Rattle.tokens.specs.Limits.{top_uses}
use Rattle.token_pool.specs.Pools.{PoolModel, there, made, recount, removed, takes, taken, dropped}
use Rattle.mixed.specs.Mixeds.{uses_of}

-- 1 for the list b itself, else 0
abbrev pub unit : ℕ → ℕ → ℕ
unit b c = cond (b == c) 1 0

-- a test that chose a number above 0 holds
pub lit : (s : Bool) (n : ℕ) → 0 < cond s n 0 → s ≡ true
lit true n h = refl
lit false n h = absurd (omega arith)

-- a number is itself
pub self : (b : ℕ) → (b == b) ≡ true
self b = eq-eqb b b refl

-- the uses, where it is known whether the list is there
uses_on : (m : PoolModel) (b : ℕ) → there m b ≡ true → uses_of m b ≡ m.count b
uses_on m b e = cond-true _ _ _ e

uses_off : (m : PoolModel) (b : ℕ) → there m b ≡ false → uses_of m b ≡ 0
uses_off m b e = cond-false _ _ _ e

-- a changed count
recount_at : (m : PoolModel) (b c n : ℕ) → (b == c) ≡ true → there m c ≡ true → uses_of (recount m b n) c ≡ n
recount_at m b c n e d = simp (d, e)

recount_off : (m : PoolModel) (b c n : ℕ) → (b == c) ≡ false → uses_of (recount m b n) c ≡ uses_of m c
recount_off m b c n e = simp e

-- a list removed
removed_at : (m : PoolModel) (b c : ℕ) → (b == c) ≡ true → uses_of (removed m b) c ≡ 0
removed_at m b c e = simp e

removed_off : (m : PoolModel) (b c : ℕ) → (b == c) ≡ false → uses_of (removed m b) c ≡ uses_of m c
removed_off m b c e = simp e

-- a list made has no use yet
pub made_uses : (m : PoolModel) (b c t : ℕ) (ts : List ℕ) → there m b ≡ false → uses_of (made m b (t ∷ ts)) c ≡ uses_of m c
made_uses m b c t ts off = elim (cases_Bool (b == c)) [
  | inl e ↦
      let q : b ≡ c = eqb-true b c e in
      let u : uses_of m c ≡ 0 = uses_off m c (rw (← q) off) in
      simp (e, u) (cond-true _ _ _ (lt-ltb 0 (length (t ∷ ts)) (omega arith)))
  | inr e ↦ simp e
]

-- it is there, and the others are as they were
pub made_there : (m : PoolModel) (b c t : ℕ) (ts : List ℕ) → (b == c) ≡ true → there (made m b (t ∷ ts)) c ≡ true
made_there m b c t ts e = simp e (lt-ltb 0 (length (t ∷ ts)) (omega arith))

-- a list made leaves the tokens of those that were there
pub made_list : (m : PoolModel) (b c : ℕ) (ts : List ℕ) → there m b ≡ false → there m c ≡ true → (made m b ts).list c ≡ m.list c
made_list m b c ts off on = elim (cases_Bool (b == c)) [
  | inl e ↦ let q : b ≡ c = eqb-true b c e in absurd (both_ways (there m c) (rw (← q) off) on)
  | inr e ↦ cond-false _ _ _ e
]

-- a use taken, by the tests
taken_on : (m : PoolModel) (b : ℕ) → there m b ≡ true → nat_lt (m.count b) top_uses ≡ true → taken m b ≡ recount m b (m.count b + 1)
taken_on m b e d = simp (e, d)

taken_off : (m : PoolModel) (b : ℕ) → there m b ≡ true → nat_lt (m.count b) top_uses ≡ false → taken m b ≡ m
taken_off m b e d = simp (e, d)

-- it adds one to its own list
pub taken_count : (m : PoolModel) (b c : ℕ) → there m b ≡ true → uses_of m c < top_uses → uses_of (taken m b) c ≡ uses_of m c + unit b c
taken_count m b c on few = elim (cases_Bool (b == c)) [
  | inl e ↦
      let q : b ≡ c = eqb-true b c e in
      let on' : there m c ≡ true = rw (← q) on in
      let u : uses_of m c ≡ m.count c = uses_on m c on' in
      let n : m.count b ≡ m.count c = ap m.count q in
      let o : unit b c ≡ 1 = cond-true _ _ _ e in
      let l : ltb (m.count b) top_uses ≡ true = lt-ltb (m.count b) top_uses (omega arith) in
      let g : uses_of (taken m b) c ≡ m.count b + 1 = ap (λ (k : PoolModel). uses_of k c) (taken_on m b on l) ∙ recount_at m b c (m.count b + 1) e on' in
      omega arith
  | inr e ↦
      let o : unit b c ≡ 0 = cond-false _ _ _ e in
      let g : uses_of (taken m b) c ≡ uses_of m c =
      elim (cases_Bool (nat_lt (m.count b) top_uses)) [
        | inl l ↦ ap (λ (k : PoolModel). uses_of k c) (taken_on m b on l) ∙ recount_off m b c (m.count b + 1) e
        | inr l ↦ ap (λ (k : PoolModel). uses_of k c) (taken_off m b on l)
      ] in
      omega arith
]

-- a changed count leaves the tokens of every list
cond_list : (s : Bool) (m : PoolModel) (b c n : ℕ) → (cond s (recount m b n) m).list c ≡ m.list c
cond_list true m b c n = refl
cond_list false m b c n = refl

-- a use taken leaves them, too
pub taken_list : (m : PoolModel) (b c : ℕ) → (taken m b).list c ≡ m.list c
taken_list m b c = cond_list (takes m b) m b c (m.count b + 1)

-- a use dropped, by the tests
dropped_none : (m : PoolModel) (b : ℕ) → there m b ≡ false → dropped m b ≡ m
dropped_none m b e = cond-false _ _ _ e

dropped_last : (m : PoolModel) (b : ℕ) → there m b ≡ true → nat_le (m.count b) 1 ≡ true → dropped m b ≡ removed m b
dropped_last m b e d = cond-true _ _ _ e ∙ cond-true _ _ _ d

dropped_more : (m : PoolModel) (b : ℕ) → there m b ≡ true → nat_le (m.count b) 1 ≡ false → dropped m b ≡ recount m b (m.count b - 1)
dropped_more m b e d = cond-true _ _ _ e ∙ cond-false _ _ _ d

-- it takes one off its own list
pub dropped_count : (m : PoolModel) (b c : ℕ) → unit b c ≤ uses_of m c → uses_of (dropped m b) c + unit b c ≡ uses_of m c
dropped_count m b c h = elim (cases_Bool (b == c)) [
  | inl e ↦
      let q : b ≡ c = eqb-true b c e in
      let o : unit b c ≡ 1 = cond-true _ _ _ e in
      let on : there m c ≡ true = lit (there m c) (m.count c) (omega arith) in
      let on' : there m b ≡ true = rw q on in
      let u : uses_of m c ≡ m.count c = uses_on m c on in
      let n : m.count b ≡ m.count c = ap m.count q in
      elim (cases_Bool (nat_le (m.count b) 1)) [
        | inl l ↦
            let a : m.count b ≤ 1 = leb-true (m.count b) 1 l in
            let g : uses_of (dropped m b) c ≡ 0 = ap (λ (k : PoolModel). uses_of k c) (dropped_last m b on' l) ∙ removed_at m b c e in
            omega arith
        | inr l ↦
            let a : 1 < m.count b = leb-false (m.count b) 1 l in
            let g : uses_of (dropped m b) c ≡ m.count b - 1 = ap (λ (k : PoolModel). uses_of k c) (dropped_more m b on' l) ∙ recount_at m b c (m.count b - 1) e on in
            omega arith
      ]
  | inr e ↦
      let o : unit b c ≡ 0 = cond-false _ _ _ e in
      let g : uses_of (dropped m b) c ≡ uses_of m c =
      elim (cases_Bool (there m b)) [
        | inl on ↦ elim (cases_Bool (nat_le (m.count b) 1)) [
          | inl l ↦ ap (λ (k : PoolModel). uses_of k c) (dropped_last m b on l) ∙ removed_off m b c e
          | inr l ↦ ap (λ (k : PoolModel). uses_of k c) (dropped_more m b on l) ∙ recount_off m b c (m.count b - 1) e
        ]
        | inr off ↦ ap (λ (k : PoolModel). uses_of k c) (dropped_none m b off)
      ] in
      omega arith
]

-- and leaves the lists that stay
removed_list : (m : PoolModel) (b c : ℕ) → there (removed m b) c ≡ true → (removed m b).list c ≡ m.list c
removed_list m b c u = elim (cases_Bool (b == c)) [
  | inl e ↦ let gone : there (removed m b) c ≡ false = simp e in absurd (both_ways (there (removed m b) c) gone u)
  | inr e ↦ cond-false _ _ _ e
]

-- a use dropped leaves the tokens of the lists that stay
pub dropped_list : (m : PoolModel) (b c : ℕ) → there (dropped m b) c ≡ true → (dropped m b).list c ≡ m.list c
dropped_list m b c u = elim (cases_Bool (there m b)) [
  | inl on ↦ elim (cases_Bool (nat_le (m.count b) 1)) [
    | inl l ↦
        let d : dropped m b ≡ removed m b = dropped_last m b on l in
        ap (λ (k : PoolModel). k.list c) d ∙ removed_list m b c (ap (λ (k : PoolModel). there k c) (sym d) ∙ u)
    | inr l ↦ ap (λ (k : PoolModel). k.list c) (dropped_more m b on l)
  ]
  | inr off ↦ ap (λ (k : PoolModel). k.list c) (dropped_none m b off)
]
