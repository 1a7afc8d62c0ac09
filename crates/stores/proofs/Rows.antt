-- What a write does to a row of cells and to the count of those that pass a test.
use Rattle.std.proofs.Common.{◌≡◌, ℕ, suc, ◌+◌, ◌-◌, ◌*◌, ◌<◌, Bool, true, false, cond, not, ◌&&◌, eqb, List, [], ◌∷◌, length, get_or, set, replicate, Some, sym, refl, ap, ◌∙◌, subst, ⊎_elim, arith, length-set, lt-ltb, ne_eqb, eqb-true}
use Rattle.std.specs.List.{FoldsTo}
use mathlib.Core.Path.{fun_ext}
use borrow.Author.Tests.{eqb-false}
use Rattle.std.proofs.lemmas.List.{get_or-set_same, get_or-set_other, get_or_past, get_or_default, get_or-replicate, length-replicate}
use Rattle.std.proofs.lemmas.List.Sums.{sum_by-set, get_or-le-sum_by}
use Rattle.std.proofs.lemmas.List.Folds.{sum_by-replicate}
use Rattle.std.proofs.lemmas.Bool.{cases_lt}
use Rattle.values.specs.Ops.{Ops}
use Rattle.stores.specs.Cells.{cell, is_blank}
use Rattle.stores.specs.Stores.{put, spare_after, full, writes, scan, next_filled}
use Rattle.stores.specs.Flats.{count, row, blank_row}
use Rattle.stores.specs.declared.cell.Cell.{Cell}

-- what a write does to the count, and to what is spare
spared : (was is : Bool) (m n : ℕ) → m + cond was 1 0 ≡ n + cond is 1 0 → m ≡ spare_after was is n
spared true true m n e = omega arith
spared true false m n e = omega arith
spared false true m n e = omega arith
spared false false m n e = omega arith

count_put : {C : Type 0} (test : C → Bool) (xs : List C) (i : ℕ) (c d : C) → i < length xs → count test (set xs i c) ≡ spare_after (test (get_or xs i d)) (test c) (count test xs)
count_put test xs i c d h =
    spared (test (get_or xs i d)) (test c) _ _ (sum_by-set (λ x. cond (test x) 1 0) xs i c d h)

-- what a write does to a row read as a function
same_put : {C : Type 0} (xs : List C) (p q : ℕ) (c d : C) → p < length xs → (t : Bool) → eqb p q ≡ t → get_or (set xs p c) q d ≡ cond t c (get_or xs q d)
same_put xs p q c d h true e = ap (λ r. get_or (set xs p c) r d) (sym (eqb-true p q e)) ∙ get_or-set_same xs p c d h
same_put xs p q c d h false e = get_or-set_other xs p q c d (λ z. eqb-false p q e (sym z))

row_put : {C : Type 0} (xs : List C) (p : ℕ) (c d : C) → p < length xs → (λ q. get_or (set xs p c) q d) ≡ put (λ q. get_or xs q d) p c
row_put xs p c d h = fun_ext (λ q. same_put xs p q c d h (eqb p q) refl)

-- a blank cell is itself spare, so a row is never full
count_pos : {C : Type 0} (test : C → Bool) (xs : List C) (i : ℕ) (d : C) → i < length xs → test (get_or xs i d) ≡ true → 0 < count test xs
count_pos test xs i d h e =
    let one = ap (λ (b : Bool). cond {A = ℕ} b 1 0) e in
    omega (arith, get_or-le-sum_by (λ x. cond (test x) 1 0) xs i d h)

not_full : (was is : Bool) (n : ℕ) → (was ≡ true → 0 < n) → (was && (not is && eqb n 0)) ≡ false
not_full false is n h = refl
not_full true true n h = refl
not_full true false n h = let z = h refl in ne_eqb n 0 (λ e. omega arith)

-- a write at a place of the row is not refused, and makes the row the store with the cell written
module _ {V M : Type 0} (k : Ops V M) (xs : List (Cell V)) (p : ℕ) (h : p < length xs) where
  roomy : (is : Bool) → full k.is_zero (row k xs) p is ≡ false
  roomy is = not_full _ is _ (count_pos (is_blank k.is_zero) xs p (cell k.zero 1) h)

  pub row_writes : (c : Cell V) → row k (set xs p c) ≡ writes k.is_zero (row k xs) p c
  row_writes c =
      let long = length-set xs p c in
      let cells = row_put xs p c (cell k.zero 1) h in
      let spare = count_put (is_blank k.is_zero) xs p c (cell k.zero 1) h in
      rw (lt-ltb p (length xs) h, roomy (is_blank k.is_zero c)) (λ i. record { reach = long i; cells = cells i; spare = spare i })

-- one turn of a scan: it goes on past a blank cell, and stops at another
scan_turn : {V : Type 0} (is_zero : V → Bool) (f : ℕ → Cell V) (p n m : ℕ) → n ≡ suc m → scan is_zero f p n ≡ cond (is_blank is_zero (f p)) (scan is_zero f (p + 1) m) (Some p)
scan_turn is_zero f p n m e = rw e

pub row_turn : {V M : Type 0} (k : Ops V M) (xs : List (Cell V)) (p : ℕ) (x : Cell V) (t : Bool) → p < length xs → t ≡ is_blank k.is_zero (get_or xs p x) → cond t (next_filled k.is_zero (row k xs) (p + 1)) (Some p) ≡ next_filled k.is_zero (row k xs) p
row_turn k xs p x t h b =
    let read = get_or_default xs p x (cell k.zero 1) h in
    rw (b ∙ ap (is_blank k.is_zero) read) (sym (scan_turn k.is_zero (row k xs).cells p (length xs - p) (length xs - (p + 1)) (omega arith)))

-- what a call gave for each element of a row, where it stays as it is and always gives the same
pub same_calls : {F C : Type 0} (step : F → C → F → Type 0) (f : F) (d : C) (xs : List C) (g : F) → FoldsTo step f xs g → ((x : C) (h : F) → step f x h → (x ≡ d) × (h ≡ f)) → xs ≡ replicate (length xs) d
same_calls step f d [] g s one = refl
same_calls step f d (x ∷ xs) g (h, now, then) one =
    let e = one x h now in
    ap (λ y. y ∷ xs) e.0 ∙ ap (λ ys. d ∷ ys) (same_calls step f d xs g (subst (λ k. FoldsTo step k xs g) e.1 then) one)

-- a row of which every cell is blank
pub row_blank : {V M : Type 0} (k : Ops V M) (n : ℕ) (xs : List (Cell V)) → k.is_zero k.zero ≡ true → length xs ≡ n → xs ≡ replicate (length xs) (cell k.zero 1) → row k xs ≡ blank_row k n
row_blank k n xs e long h =
    let d = cell k.zero 1 in
    let all : xs ≡ replicate n d = h ∙ ap (λ (m : ℕ). replicate m d) long in
    let each : n * cond (is_blank k.is_zero d) 1 0 ≡ n = rw e (omega arith) in
    let cells : (λ q. get_or xs q d) ≡ (λ q. d) = fun_ext (λ q. rw all (⊎_elim (get_or-replicate n q d d) (λ past. get_or_past (replicate n d) q d (rw length-replicate past)) (cases_lt q n))) in
    let spare : count (is_blank k.is_zero) xs ≡ n = rw all (sum_by-replicate (λ c. cond (is_blank k.is_zero c) 1 0) n d ∙ each) in
    λ i. record { reach = long i; cells = cells i; spare = spare i }
