-- What a change of nodes is as a write to a store.
use Rattle.std.proofs.Common.{◌≡◌, ℕ, ◌-◌, ◌<◌, Bool, true, false, cond, not, ◌&&◌, eqb, ltb, List, Some, None, Ok, Err, Result, sym, refl, ap, ◌∙◌, arith, ltb-true, lt-ltb, eqb-true}
use Rattle.std.proofs.lemmas.Bool.{and_parts, eqb-false}
use Rattle.values.specs.Ops.{Ops}
use Rattle.values.specs.Laws.{Laws}
use Rattle.stores.specs.Cells.{cell, is_blank}
use Rattle.stores.specs.Stores.{StoreModel, put, full, verdict, written, writes, spare_after}
use Rattle.stores.specs.declared.cell.Cell.{Cell}
use Rattle.stores.specs.declared.fault.StoreFault.{StoreFault}
use Rattle.stores.specs.declared.fault.StoreFault.TheVariants.{Beyond, Full}
use Rattle.sparse.specs.Listing.{node, Ascends, look, found, ins, del, over}
use Rattle.sparse.specs.Sparses.{noded}
use Rattle.sparse.specs.declared.node.Node.{Node}
use Rattle.sparse.proofs.Looks.{look_some, look_none, put_bare, look_ins, look_del, look_over, absent_none}

-- a write that is not refused
pub record Goes {V : Type 0} (is_zero : V → Bool) (s : StoreModel V) (p : ℕ) (c : Cell V) : Type 0 where
  pub near : p < s.reach
  pub room : full is_zero s p (is_blank is_zero c) ≡ false

-- whether an answer is a fault
abbrev refused : Result Unit StoreFault → Bool
refused (Ok u) = false
refused (Err f) = true

module _ {V : Type 0} (is_zero : V → Bool) (s : StoreModel V) (p : ℕ) (c : Cell V) where
  going : (t u : Bool) → ltb p s.reach ≡ t → full is_zero s p (is_blank is_zero c) ≡ u → refused (cond t (cond u (Err (Full p)) (Ok tt)) (Err (Beyond p))) ≡ false → Goes is_zero s p c
  going true true e f h = cc
  going true false e f h = record { near = ltb-true p s.reach e; room = f }
  going false u e f h = cc

  goes : verdict is_zero s p (is_blank is_zero c) ≡ Ok tt → Goes is_zero s p c
  goes h = going (ltb p s.reach) (full is_zero s p (is_blank is_zero c)) refl refl (ap refused h)

  done : (n : StoreModel V) → Goes is_zero s p c → n ≡ written is_zero s p c → n ≡ writes is_zero s p c
  done n g e = let a = lt-ltb p s.reach g.near in let b = g.room in rw (a, b) e

  pub accepted : (n : StoreModel V) (b : Bool) → Ok tt ≡ verdict is_zero s p b → b ≡ is_blank is_zero c → n ≡ written is_zero s p c → (Ok tt ≡ verdict is_zero s p (is_blank is_zero c)) × (n ≡ writes is_zero s p c)
  accepted n b h i e = let k = h ∙ ap (verdict is_zero s p) i in (k, done n (goes (sym k)) e)

module _ {V M : Type 0} (k : Ops V M) (law : Laws k) where
  -- the blank cell is blank, and no other is
  pub z_blank : is_blank k.is_zero (cell k.zero 1) ≡ true
  z_blank = let e = law.zero_is in rw e refl

  pub blank_is : (c : Cell V) → is_blank k.is_zero c ≡ true → c ≡ cell k.zero 1
  blank_is c e =
      let h = and_parts (k.is_zero c.value) (eqb c.level 1) e in
      let v = law.sole c.value h.0 in
      let l = eqb-true c.level 1 h.1 in
      λ i. cell (v i) (l i)

  module _ (r s p : ℕ) (xs : List (Node V)) (c : Cell V) where
    none_blank : found p xs ≡ None → is_blank k.is_zero (look (cell k.zero 1) xs p) ≡ true
    none_blank e = ap (is_blank k.is_zero) (look_none (cell k.zero 1) p xs e) ∙ z_blank

    some_blank : (d : Cell V) (b : Bool) → found p xs ≡ Some d → b ≡ is_blank k.is_zero d → is_blank k.is_zero (look (cell k.zero 1) xs p) ≡ b
    some_blank d b e w = ap (is_blank k.is_zero) (look_some (cell k.zero 1) p xs d e) ∙ sym w

    wrote : (n m : ℕ) (ys : List (Node V)) (was is : Bool) → n ≡ r → look (cell k.zero 1) ys ≡ put (look (cell k.zero 1) xs) p c
        → is_blank k.is_zero (look (cell k.zero 1) xs p) ≡ was → is ≡ is_blank k.is_zero c → m ≡ spare_after was is s
        → noded k n ys m ≡ written k.is_zero (noded k r xs s) p c
    wrote n m ys was is e cs w i f =
        let t : m ≡ spare_after (is_blank k.is_zero (look (cell k.zero 1) xs p)) (is_blank k.is_zero c) s = f ∙ (λ j. spare_after (sym w j) (i j) s) in
        λ j. record { reach = e j; cells = cs j; spare = t j }

    -- a blank cell that is filled takes one off the spare
    left : (b : Bool) → b ≡ true → (b && (not (is_blank k.is_zero c) && eqb s 0)) ≡ false → false ≡ is_blank k.is_zero c → 0 < s
    left b e f i =
        let g : eqb s 0 ≡ false = (λ j. sym e j && (not (i j) && eqb s 0)) ∙ f in
        let h = eqb-false s 0 g in
        omega arith

    pub none_left : found p xs ≡ None → full k.is_zero (noded k r xs s) p (is_blank k.is_zero c) ≡ false → false ≡ is_blank k.is_zero c → 0 < s
    none_left e f i = left _ (none_blank e) f i

    pub some_left : (d : Cell V) → found p xs ≡ Some d → true ≡ is_blank k.is_zero d → full k.is_zero (noded k r xs s) p (is_blank k.is_zero c) ≡ false → false ≡ is_blank k.is_zero c → 0 < s
    some_left d e w f i = left _ (some_blank d true e w) f i

    -- a place that has no node
    pub filled : (n m : ℕ) (ys : List (Node V)) → found p xs ≡ None → false ≡ is_blank k.is_zero c → n ≡ r → ys ≡ ins (node p c) xs → m ≡ s - 1
        → noded k n ys m ≡ written k.is_zero (noded k r xs s) p c
    filled n m ys e i q y f =
        wrote n m ys true false q (ap (look (cell k.zero 1)) y ∙ look_ins (cell k.zero 1) (node p c) xs (absent_none p xs e)) (none_blank e) i f

    pub bared : found p xs ≡ None → true ≡ is_blank k.is_zero c → noded k r xs s ≡ written k.is_zero (noded k r xs s) p c
    bared e i =
        let z = blank_is c (sym i) in
        wrote r s xs true true refl (put_bare (cell k.zero 1) p xs e ∙ ap (λ d. put (look (cell k.zero 1) xs) p d) (sym z)) (none_blank e) i refl

    -- a place that has one
    pub refilled : (n m : ℕ) (ys : List (Node V)) (d : Cell V) (was : Bool) → found p xs ≡ Some d → was ≡ is_blank k.is_zero d → false ≡ is_blank k.is_zero c → n ≡ r → ys ≡ over p c xs → m ≡ spare_after was false s
        → noded k n ys m ≡ written k.is_zero (noded k r xs s) p c
    refilled n m ys d was e w i q y f =
        wrote n m ys was false q (ap (look (cell k.zero 1)) y ∙ look_over (cell k.zero 1) p c xs d e) (some_blank d was e w) i f

    pub blanked : (n m : ℕ) (ys : List (Node V)) (d : Cell V) (was : Bool) → Ascends 0 r xs → found p xs ≡ Some d → was ≡ is_blank k.is_zero d → true ≡ is_blank k.is_zero c → n ≡ r → ys ≡ del p xs → m ≡ spare_after was true s
        → noded k n ys m ≡ written k.is_zero (noded k r xs s) p c
    blanked n m ys d was h e w i q y f =
        let z = blank_is c (sym i) in
        wrote n m ys was true q (ap (look (cell k.zero 1)) y ∙ look_del (cell k.zero 1) p 0 r xs h ∙ ap (λ x. put (look (cell k.zero 1) xs) p x) (sym z)) (some_blank d was e w) i f
