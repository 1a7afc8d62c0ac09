-- The listing, line by line.
use Rattle.std.proofs.Common.{◌≡◌, ℕ, zero, suc, ◌+◌, ◌-◌, ◌<◌, ◌≤◌, Bool, true, false, cond, ◌&&◌, List, [], ◌∷◌, Some, None, Option, sym, refl, ap, ◌∙◌, arith}
use Rattle.std.proofs.lemmas.Bool.{lt-ltb}
use Rattle.output.specs.Text.{Out, stands, wrote}
use Rattle.values.specs.Ops.{Ops}
use Rattle.stores.specs.Cells.{is_blank}
use Rattle.stores.specs.Stores.{StoreModel, scan, cell_at}
use Rattle.stores.specs.declared.cell.Cell.{Cell}
use Rattle.engine.specs.Listings.{line_at, lines_from, listed_to, all_stand}

-- the cell that a store tells of a place
pub told_cell : {V : Type 0} {c : Cell V} (s : StoreModel V) (p : ℕ) → Some c ≡ cell_at s p → p < s.reach → c ≡ s.cells p
told_cell {V = V} s p e h = let f : cell_at s p ≡ Some (s.cells p) = ap (λ (b : Bool). cond {A = Option (Cell V)} b (Some (s.cells p)) None) (lt-ltb p s.reach h) in cc

pub told_none : {V : Type 0} (s : StoreModel V) (p : ℕ) → None ≡ cell_at s p → p < s.reach → ⊥
told_none {V = V} s p e h =
    let f : cell_at s p ≡ Some (s.cells p) = ap (λ (b : Bool). cond {A = Option (Cell V)} b (Some (s.cells p)) None) (lt-ltb p s.reach h) in
    let z : ◌≡◌ {A = ℕ} 0 1 = cc in
    omega arith

module _ {V M : Type 0} (k : Ops V M) (s : StoreModel V) (m : M) where
  -- the first filled place q among n from p on has the next line
  pub record Found (p n q : ℕ) : Type 0 where
    pub low : p ≤ q
    pub high : q < p + n
    pub lines : lines_from k s m p n ≡ line_at k s m q ∷ lines_from k s m (q + 1) ((p + n) - (q + 1))

  -- one more place in front of those that follow
  turned : (n p q : ℕ) (b : Bool) → (Some q ≡ scan k.is_zero s.cells (p + 1) n → Found (p + 1) n q) → is_blank k.is_zero (s.cells p) ≡ b
      → Some q ≡ cond b (scan k.is_zero s.cells (p + 1) n) (Some p) → Found p (suc n) q
  turned n p q true onward h e =
      let f = onward e in
      let i : (p + 1 + n) - (q + 1) ≡ (p + suc n) - (q + 1) = omega arith in
      record {
        low = omega (arith, f.low);
        high = omega (arith, f.high);
        lines = ap (λ (b : Bool). cond b (lines_from k s m (p + 1) n) (line_at k s m p ∷ lines_from k s m (p + 1) n)) h
            ∙ f.lines ∙ ap (λ (j : ℕ). line_at k s m q ∷ lines_from k s m (q + 1) j) i;
      }
  turned n p q false onward h e =
      let f : q ≡ p = cc in
      let i : n ≡ (p + suc n) - (p + 1) = omega arith in
      record {
        low = omega arith;
        high = omega arith;
        lines = ap (λ (b : Bool). cond b (lines_from k s m (p + 1) n) (line_at k s m p ∷ lines_from k s m (p + 1) n)) h
            ∙ ap (λ (j : ℕ). line_at k s m p ∷ lines_from k s m (p + 1) j) i
            ∙ ap (λ (r : ℕ). line_at k s m r ∷ lines_from k s m (r + 1) ((p + suc n) - (r + 1))) (sym f);
      }

  pub found : (n p q : ℕ) → Some q ≡ scan k.is_zero s.cells p n → Found p n q
  found zero p q e = let z : ◌≡◌ {A = ℕ} 0 1 = cc in absurd (omega arith)
  found (suc n) p q e = turned n p q (is_blank k.is_zero (s.cells p)) (found n (p + 1) q) refl e

  -- where none is filled there is no line
  blank_on : (n p : ℕ) (b : Bool) → (None ≡ scan k.is_zero s.cells (p + 1) n → lines_from k s m (p + 1) n ≡ []) → is_blank k.is_zero (s.cells p) ≡ b
      → None ≡ cond b (scan k.is_zero s.cells (p + 1) n) (Some p) → lines_from k s m p (suc n) ≡ []
  blank_on n p true onward h e = ap (λ (b : Bool). cond b (lines_from k s m (p + 1) n) (line_at k s m p ∷ lines_from k s m (p + 1) n)) h ∙ onward e
  blank_on n p false onward h e = let z : ◌≡◌ {A = ℕ} 0 1 = cc in absurd (omega arith)

  pub absent : (n p : ℕ) → None ≡ scan k.is_zero s.cells p n → lines_from k s m p n ≡ []
  absent zero p e = refl
  absent (suc n) p e = blank_on n p (is_blank k.is_zero (s.cells p)) (absent n (p + 1)) refl e

  -- what is left of the lines after a place
  pub rest : (p q : ℕ) → Found p (s.reach - p) q → lines_from k s m p (s.reach - p) ≡ line_at k s m q ∷ lines_from k s m (q + 1) (s.reach - (q + 1))
  rest p q f =
      let l = f.low in
      let h = f.high in
      let i : (p + (s.reach - p)) - (q + 1) ≡ s.reach - (q + 1) = omega arith in
      f.lines ∙ ap (λ (j : ℕ). line_at k s m q ∷ lines_from k s m (q + 1) j) i

-- a line that stands, and one that does not
module _ (o : Out) (l : List ℕ) (ls all : List (List ℕ)) (is : all ≡ l ∷ ls) where
  pub to_stands : stands o l ≡ true → listed_to (wrote o l) ls ≡ listed_to o all
  to_stands h = sym (ap (listed_to o) is ∙ ap (λ (b : Bool). cond b (listed_to (wrote o l) ls) (wrote o l)) h)

  pub all_stands : stands o l ≡ true → all_stand (wrote o l) ls ≡ all_stand o all
  all_stands h = sym (ap (all_stand o) is ∙ ap (λ (b : Bool). b && all_stand (wrote o l) ls) h)

  pub to_lost : stands o l ≡ false → wrote o l ≡ listed_to o all
  to_lost h = sym (ap (listed_to o) is ∙ ap (λ (b : Bool). cond b (listed_to (wrote o l) ls) (wrote o l)) h)

  pub all_lost : stands o l ≡ false → false ≡ all_stand o all
  all_lost h = sym (ap (all_stand o) is ∙ ap (λ (b : Bool). b && all_stand (wrote o l) ls) h)
