-- Counting the places and entries that hold a list.
use Rattle.std.proofs.Common.{◌≡◌, ℕ, zero, suc, ◌+◌, ◌<◌, ◌≤◌, Bool, true, false, cond, eqb, List, [], ◌∷◌, length, refl, ap, inl, inr, arith, ne_eqb, eqb-true}
use borrow.Author.Tests.{eqb-false}
use Rattle.std.proofs.lemmas.Bool.{cases_Bool}
use Rattle.values.specs.Ops.{Ops, one, names}
use Rattle.stores.specs.Stores.{put}
use Rattle.stores.specs.declared.cell.Cell.{Cell}
use Rattle.save_stack.specs.declared.entry.Entry.{Entry}
use Rattle.save_stack.specs.declared.entry.Entry.TheVariants.{Saved, Held, Boundary}
use Rattle.laws.specs.Law.{places, entries}

module _ {V M : Type 0} (k : Ops V M) (b : ℕ) where
  -- a value holds a list at most once, so counts are at most what there is to count
  one_most : (v : V) → one k b v ≤ 1
  one_most v = elim (names (k.list v) b) as (λ s. cond s 1 0 ≤ 1) [ true ↦ omega arith | false ↦ omega arith ]

  pub places_most : (n : ℕ) (f : ℕ → Cell V) → places k b n f ≤ n
  places_most zero f = omega arith
  places_most (suc n) f = let h = places_most n f in let g = one_most (f n).value in omega arith

  pub entries_most : (es : List (Entry V)) → entries k b es ≤ length es
  entries_most [] = omega arith
  entries_most (Saved p c ∷ es) = let h = entries_most es in let g = one_most c.value in omega arith
  entries_most (Held c ∷ es) = let h = entries_most es in omega arith
  entries_most (Boundary c ∷ es) = let h = entries_most es in omega arith

  -- what a place holds is counted
  pub place_held : (n q : ℕ) (f : ℕ → Cell V) → q < n → one k b (f q).value ≤ places k b n f
  place_held zero q f h = omega arith
  place_held (suc n) q f h = elim (cases_Bool (eqb q n)) [
    | inl e ↦ let d : one k b (f q).value ≡ one k b (f n).value = ap (λ (i : ℕ). one k b (f i).value) (eqb-true q n e) in omega arith
    | inr e ↦ let d : ¬ (q ≡ n) = eqb-false q n e in let g = place_held n q f (omega arith) in omega arith
  ]

  -- a cell put above the places that are counted, and below them
  put_above : (n p : ℕ) (f : ℕ → Cell V) (c : Cell V) → n ≤ p → places k b n (put f p c) ≡ places k b n f
  put_above zero p f c h = refl
  put_above (suc n) p f c h =
      let e : eqb p n ≡ false = ne_eqb p n (λ d. omega arith) in
      let d : one k b (put f p c n).value ≡ one k b (f n).value = ap (λ (s : Bool). one k b (cond s c (f n)).value) e in
      let g = put_above n p f c (omega arith) in
      omega arith

  pub put_below : (n p : ℕ) (f : ℕ → Cell V) (c : Cell V) → p < n →
      places k b n (put f p c) + one k b (f p).value ≡ places k b n f + one k b c.value
  put_below zero p f c h = omega arith
  put_below (suc n) p f c h = elim (cases_Bool (eqb p n)) [
    | inl e ↦
        let q : p ≡ n = eqb-true p n e in
        let d : one k b (put f p c n).value ≡ one k b c.value = ap (λ (s : Bool). one k b (cond s c (f n)).value) e in
        let a : one k b (f p).value ≡ one k b (f n).value = ap (λ (i : ℕ). one k b (f i).value) q in
        let g = put_above n p f c (omega arith) in
        omega arith
    | inr e ↦
        let q : ¬ (p ≡ n) = eqb-false p n e in
        let d : one k b (put f p c n).value ≡ one k b (f n).value = ap (λ (s : Bool). one k b (cond s c (f n)).value) e in
        let g = put_below n p f c (omega arith) in
        omega arith
  ]

  -- none hold it
  pub places_none : (n : ℕ) (f : ℕ → Cell V) → ((p : ℕ) → one k b (f p).value ≡ 0) → places k b n f ≡ 0
  places_none zero f h = refl
  places_none (suc n) f h = let g = places_none n f h in let a = h n in omega arith
