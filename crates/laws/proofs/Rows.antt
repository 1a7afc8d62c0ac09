-- Rows of moments: global assignments, and openings that no close ends.
use Rattle.std.proofs.Common.{◌≡◌, ℕ, zero, suc, Bool, true, cond, not, eqb, ◌⊎◌, List, [], ◌∷◌, ◌++◌, refl, ap, ◌∙◌, inl, inr, eq-eqb}
use Rattle.std.proofs.lemmas.Bool.{and_parts, not-true}
use Rattle.values.specs.Readings.{Reading}
use Rattle.laws.specs.Histories.{Event, begin, end, global, other, Moment, events, balanced, untouched, Opened}

-- as the last global assignment of the place set it, or else r
abbrev pub last_global : ℕ → List Event → Reading → Reading
last_global p [] r = r
last_global p (begin ∷ es) r = last_global p es r
last_global p (end ∷ es) r = last_global p es r
last_global p (global q x ∷ es) r = last_global p es (cond (eqb q p) x r)
last_global p (other ∷ es) r = last_global p es r

-- with none it is r
pub last_none : (p : ℕ) (es : List Event) (r : Reading) → untouched p es ≡ true → last_global p es r ≡ r
last_none p [] r e = refl
last_none p (begin ∷ es) r e = last_none p es r e
last_none p (end ∷ es) r e = last_none p es r e
last_none p (global q x ∷ es) r e =
    let d = and_parts (not (eqb q p)) (untouched p es) e in
    ap (λ (b : Bool). last_global p es (cond b x r)) (not-true (eqb q p) d.0) ∙ last_none p es r d.1
last_none p (other ∷ es) r e = last_none p es r e

-- with none after one, it is as that one set it
pub last_some : (p : ℕ) (xs ys : List Event) (x r : Reading) → untouched p ys ≡ true → last_global p (xs ++ (global p x ∷ ys)) r ≡ x
last_some p [] ys x r e = ap (λ (b : Bool). last_global p ys (cond b x r)) (eq-eqb p p refl) ∙ last_none p ys x e
last_some p (begin ∷ xs) ys x r e = last_some p xs ys x r e
last_some p (end ∷ xs) ys x r e = last_some p xs ys x r e
last_some p (global q y ∷ xs) ys x r e = last_some p xs ys x (cond (eqb q p) y r) e
last_some p (other ∷ xs) ys x r e = last_some p xs ys x r e

module _ {V M : Type 0} where
  -- a row ends each group it begins, and some n more, or has a latest opening
  abbrev pub Row : List (Moment V M) → Type 0
  Row ms = ((n : ℕ) × (balanced n (events ms) ≡ true)) ⊎ Opened ms

  -- one moment more at the front
  row_after : (m : Moment V M) (ms : List (Moment V M)) (e : Event) → m.what ≡ e → (n : ℕ) → balanced n (events ms) ≡ true → Row (m ∷ ms)
  row_after m ms begin e zero b = inr (record { before = []; opening = m; inside = ms; parts = refl; begins = e; matches = b })
  row_after m ms begin e (suc n) b = inl (n, ap (λ (x : Event). balanced n (x ∷ events ms)) e ∙ b)
  row_after m ms end e n b = inl (suc n, ap (λ (x : Event). balanced (suc n) (x ∷ events ms)) e ∙ b)
  row_after m ms (global p r) e n b = inl (n, ap (λ (x : Event). balanced n (x ∷ events ms)) e ∙ b)
  row_after m ms other e n b = inl (n, ap (λ (x : Event). balanced n (x ∷ events ms)) e ∙ b)

  row_more : (m : Moment V M) (ms : List (Moment V M)) → Row ms → Row (m ∷ ms)
  row_more m ms (inl h) = row_after m ms m.what refl h.0 h.1
  row_more m ms (inr h) = inr (record {
    before = m ∷ h.before;
    opening = h.opening;
    inside = h.inside;
    parts = ap (λ (xs : List (Moment V M)). m ∷ xs) h.parts;
    begins = h.begins;
    matches = h.matches;
  })

  -- every row is so
  pub row : (ms : List (Moment V M)) → Row ms
  row [] = inl (0, refl)
  row (m ∷ ms) = row_more m ms (row ms)
