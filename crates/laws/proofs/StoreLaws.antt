-- What users of a store rely on, from what a write and a search mean.
use Rattle.std.proofs.Common.{◌≡◌, ℕ, zero, suc, ◌+◌, ◌-◌, ◌<◌, ◌≤◌, Bool, true, false, cond, not, ◌&&◌, eqb, ltb, [], ◌∷◌, Some, None, Ok, Err, Option, Result, sym, refl, ap, ◌∙◌, inl, inr, arith}
use Rattle.std.proofs.lemmas.Bool.{eq-eqb, ne_eqb, eqb-true, eqb-false, ltb-true, cases_eq}
use Rattle.stores.specs.Cells.{is_blank}
use Rattle.stores.specs.Stores.{StoreModel, put, cell_at, spare_after, full, written, writes, scan}
use Rattle.stores.specs.declared.cell.Cell.{Cell}
use Rattle.stores.specs.declared.fault.StoreFault.{StoreFault}
use Rattle.stores.specs.declared.fault.StoreFault.TheVariants.{Beyond, Full}
use Rattle.laws.specs.Writes.{filled_below, filled, AddsUp, ReadsBack, RefusedStays, FindsLeast, StoreLaws}

module _ {V : Type 0} (is_zero : V → Bool) where
  -- 1 for a filled cell, 0 for a blank one
  abbrev fills : Cell V → ℕ
  fills c = cond (is_blank is_zero c) 0 1

  -- what is put at n or above leaves the first n places as they are
  below_same : (f : ℕ → Cell V) (p : ℕ) (c : Cell V) (n : ℕ) → n ≤ p → filled_below is_zero n (put f p c) ≡ filled_below is_zero n f
  below_same f p c zero h = refl
  below_same f p c (suc n) h =
      let e = below_same f p c n (omega arith) in
      let d : eqb p n ≡ false = ne_eqb p n (λ y. omega arith) in
      let w : ◌≡◌ {A = ℕ} (fills (put f p c n)) (fills (f n)) = ap (λ (b : Bool). fills (cond b c (f n))) d in
      omega arith

  -- one more place: it is the one put, or another
  below_step : (f : ℕ → Cell V) (p : ℕ) (c : Cell V) (n : ℕ) (b : Bool) → eqb p n ≡ b
      → (p < n → filled_below is_zero n (put f p c) + fills (f p) ≡ filled_below is_zero n f + fills c) → p < suc n
      → (fills (cond b c (f n)) + filled_below is_zero n (put f p c)) + fills (f p) ≡ (fills (f n) + filled_below is_zero n f) + fills c
  below_step f p c n true e onward h =
      let s = eqb-true p n e in
      let g = below_same f p c n (omega arith) in
      let w : ◌≡◌ {A = ℕ} (fills (f p)) (fills (f n)) = ap (λ (q : ℕ). fills (f q)) s in
      omega arith
  below_step f p c n false e onward h =
      let d = eqb-false p n e in
      let l : p < n = elim (cases_eq p n) [ inl s ↦ absurd (d s) | inr s ↦ omega arith ] in
      let g = onward l in
      omega arith

  -- what is put below n changes how many are filled by what it was and is
  below_put : (f : ℕ → Cell V) (p : ℕ) (c : Cell V) (n : ℕ) → p < n → filled_below is_zero n (put f p c) + fills (f p) ≡ filled_below is_zero n f + fills c
  below_put f p c zero h = absurd (omega arith)
  below_put f p c (suc n) h = below_step f p c n (eqb p n) refl (below_put f p c n) h

  -- the spare changes the other way
  spent : (was is : Bool) (s a b : ℕ) → (was && (not is && eqb s 0)) ≡ false → a + cond was 0 1 ≡ b + cond is 0 1 → spare_after was is s + a ≡ s + b
  spent true true s a b f e = omega arith
  spent true false s a b f e = let z = eqb-false s 0 f in omega arith
  spent false true s a b f e = omega arith
  spent false false s a b f e = omega arith

  -- spare and filled places of a store
  abbrev both : StoreModel V → ℕ
  both s = s.spare + filled is_zero s

  -- a store after a write, by whether the place is there, and whether the store is full
  abbrev after_write : StoreModel V → ℕ → Cell V → Bool → Bool → StoreModel V
  after_write s p c t u = cond t (cond u s (written is_zero s p c)) s

  -- and the answer
  abbrev answer : ℕ → Bool → Bool → Result Unit StoreFault
  answer p t u = cond t (cond u (Err (Full p)) (Ok tt)) (Err (Beyond p))

  -- one write
  one_write : (s : StoreModel V) (p : ℕ) (c : Cell V) (t u : Bool) → ltb p s.reach ≡ t → full is_zero s p (is_blank is_zero c) ≡ u
      → both (after_write s p c t u) ≡ both s
  one_write s p c false u e f = refl
  one_write s p c true true e f = refl
  one_write s p c true false e f =
      spent (is_blank is_zero (s.cells p)) (is_blank is_zero c) s.spare (filled_below is_zero s.reach (put s.cells p c)) (filled is_zero s) f
      (below_put s.cells p c s.reach (ltb-true p s.reach e))

  -- many writes
  adds_up : (s : StoreModel V) → AddsUp is_zero s
  adds_up s [] = refl
  adds_up s (w ∷ ws) =
      adds_up (writes is_zero s w.place w.cell) ws
      ∙ one_write s w.place w.cell (ltb w.place s.reach) (full is_zero s w.place (is_blank is_zero w.cell)) refl refl

  -- a write that is not refused
  reads_both : (s : StoreModel V) (p q : ℕ) (c : Cell V) (t u : Bool) → ltb p s.reach ≡ t → answer p t u ≡ Ok tt
      → (cell_at (after_write s p c t u) p ≡ Some c) × ((p ≡ q → ⊥) → cell_at (after_write s p c t u) q ≡ cell_at s q)
  reads_both s p q c false u e h = absurd cc
  reads_both s p q c true true e h = absurd cc
  reads_both s p q c true false e h = (
    ap (λ (b : Bool). cond {A = Option (Cell V)} b (Some (put s.cells p c p)) None) e
        ∙ ap (λ (b : Bool). Some (cond b c (s.cells p))) (eq-eqb p p refl),
    λ d. ap (λ (b : Bool). cond {A = Option (Cell V)} (ltb q s.reach) (Some (cond b c (s.cells q))) None) (ne_eqb p q d),
  )

  reads_back : (s : StoreModel V) → ReadsBack is_zero s
  reads_back s p q c h = reads_both s p q c (ltb p s.reach) (full is_zero s p (is_blank is_zero c)) refl h

  -- a refused write
  stays_both : (s : StoreModel V) (p : ℕ) (c : Cell V) (f : StoreFault) (t u : Bool) → answer p t u ≡ Err f → after_write s p c t u ≡ s
  stays_both s p c f false u h = refl
  stays_both s p c f true true h = refl
  stays_both s p c f true false h = cc

  refused_stays : (s : StoreModel V) → RefusedStays is_zero s
  refused_stays s p c f h = stays_both s p c f (ltb p s.reach) (full is_zero s p (is_blank is_zero c)) h

  module _ (f : ℕ → Cell V) where
    -- q is the first filled place of n from p on
    record Least (p n q : ℕ) : Type 0 where
      low : p ≤ q
      high : q < p + n
      fill : is_blank is_zero (f q) ≡ false
      blanks : (r : ℕ) → p ≤ r → r < q → is_blank is_zero (f r) ≡ true

    -- a blank place is in front of blank ones
    before : (p r : ℕ) → is_blank is_zero (f p) ≡ true → (p + 1 ≤ r → is_blank is_zero (f r) ≡ true) → p ≤ r → is_blank is_zero (f r) ≡ true
    before p r e onward h = elim (cases_eq p r) [
      | inl s ↦ ap (λ (x : ℕ). is_blank is_zero (f x)) (sym s) ∙ e
      | inr s ↦ onward (omega arith)
    ]

    -- the first filled place, by whether the place in front is blank
    found_step : (n p q : ℕ) (b : Bool) → (scan is_zero f (p + 1) n ≡ Some q → Least (p + 1) n q) → is_blank is_zero (f p) ≡ b
        → cond b (scan is_zero f (p + 1) n) (Some p) ≡ Some q → Least p (suc n) q
    found_step n p q true onward h e =
        let g = onward e in
        let l = g.low in
        let u = g.high in
        record {
          low = omega arith;
          high = omega arith;
          fill = g.fill;
          blanks = λ r a b. before p r h (λ x. g.blanks r x b) a;
        }
    found_step n p q false onward h e =
        let s : p ≡ q = cc in
        record {
          low = omega arith;
          high = omega arith;
          fill = ap (λ (x : ℕ). is_blank is_zero (f x)) (sym s) ∙ h;
          blanks = λ r a b. absurd (omega arith);
        }

    found : (n p q : ℕ) → scan is_zero f p n ≡ Some q → Least p n q
    found zero p q e = absurd cc
    found (suc n) p q e = found_step n p q (is_blank is_zero (f p)) (found n (p + 1) q) refl e

    -- no place is filled, by whether the place in front is blank
    absent_step : (n p : ℕ) (b : Bool) → (scan is_zero f (p + 1) n ≡ None → (r : ℕ) → p + 1 ≤ r → r < p + 1 + n → is_blank is_zero (f r) ≡ true)
        → is_blank is_zero (f p) ≡ b → cond b (scan is_zero f (p + 1) n) (Some p) ≡ None
        → (r : ℕ) → p ≤ r → r < p + suc n → is_blank is_zero (f r) ≡ true
    absent_step n p true onward h e r a b = before p r h (λ x. onward e r x (omega arith)) a
    absent_step n p false onward h e r a b = cc

    absent : (n p : ℕ) → scan is_zero f p n ≡ None → (r : ℕ) → p ≤ r → r < p + n → is_blank is_zero (f r) ≡ true
    absent zero p e r a b = absurd (omega arith)
    absent (suc n) p e r a b = absent_step n p (is_blank is_zero (f p)) (absent n (p + 1)) refl e r a b

  -- the search of a store is over the places from one on, up to its reach
  finds_least : (s : StoreModel V) → FindsLeast is_zero s
  finds_least s from = (
    λ p e.
        let g = found s.cells (s.reach - from) from p e in
        let l = g.low in
        let u = g.high in
        (l, omega arith, g.fill, g.blanks),
    λ e q a b. absent s.cells (s.reach - from) from e q a (omega arith),
  )

  -- the laws
  pub store_laws : (s : StoreModel V) → StoreLaws is_zero s
  store_laws s = (adds_up s, reads_back s, refused_stays s, finds_least s)
