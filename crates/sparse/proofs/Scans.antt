-- The first node at or past a place, and the least filled place of a store.
use Rattle.std.proofs.Common.{◌≡◌, ℕ, zero, suc, ◌+◌, ◌-◌, ◌<◌, ◌≤◌, max, Bool, true, false, cond, leb, List, [], ◌∷◌, Some, None, vec_items, sym, refl, ap, ◌∙◌, subst, arith, eq-eqb, ne_eqb, leb-false, leb-true}
use Rattle.std.proofs.lemmas.Bool.Decides.{nat_tests}
use Rattle.values.specs.Ops.{Ops}
use Rattle.values.specs.Laws.{Laws}
use Rattle.stores.specs.Cells.{cell, is_blank}
use Rattle.stores.specs.Stores.{scan, next_filled}
use Rattle.stores.specs.declared.cell.Cell.{Cell}
use Rattle.sparse.specs.Listing.{Ascends, look, first_from}
use Rattle.sparse.specs.Held.{held}
use Rattle.sparse.specs.Sparses.{noded}
use Rattle.sparse.specs.declared.node.Node.{Node}
use Rattle.sparse.specs.declared.nodes.Nodes.{Nodes}
use Rattle.sparse.proofs.Order.{asc_ends}
use Rattle.sparse.proofs.Frames.{tree_asc}
use Rattle.sparse.proofs.Chains.{tree_from}
use Rattle.sparse.proofs.Looks.{look_high}
use Rattle.sparse.proofs.Writes.{z_blank}

-- what a store's nodes hold is in order
pub held_asc : {V : Type 0} (n : Nodes V) → Ascends 0 n.reach (held n)
unfolding held
held_asc n =
    let e : max 0 n.reach ≡ n.reach = omega arith in
    subst (λ (h : ℕ). Ascends 0 h (held n)) e (tree_asc 18 (vec_items n.tips) 0 n.reach n.root (tree_from 18 (vec_items n.tips) 0 n.reach n.root n.tree))

-- a scan over blank cells, and up to a filled one
scan_none : {V : Type 0} (is_zero : V → Bool) (f : ℕ → Cell V) (p n : ℕ) → ((q : ℕ) → p ≤ q → is_blank is_zero (f q) ≡ true) → scan is_zero f p n ≡ None
scan_none is_zero f p zero h = refl
scan_none is_zero f p (suc n) h = let e = h p (omega arith) in rw e (scan_none is_zero f (p + 1) n (λ q a. h q (omega arith)))

scan_skip : {V : Type 0} (is_zero : V → Bool) (f : ℕ → Cell V) (p k n m : ℕ) → m ≡ k + n → ((q : ℕ) → p ≤ q → q < p + k → is_blank is_zero (f q) ≡ true)
    → scan is_zero f p m ≡ scan is_zero f (p + k) n
scan_skip is_zero f p zero n m e h = let e2 : m ≡ n = omega arith in let e3 : p + 0 ≡ p = omega arith in rw (e2, e3) refl
scan_skip is_zero f p (suc k) n m e h =
    let e2 : m ≡ suc (k + n) = omega arith in
    let b = h p (omega arith) (omega arith) in
    let e3 : p + suc k ≡ (p + 1) + k = omega arith in
    rw (e2, b, e3) (scan_skip is_zero f (p + 1) k n (k + n) refl (λ q a b. h q (omega arith) (omega arith)))

-- the first node from p on stands where it says, and nothing before it
pub record First {V : Type 0} (z : Cell V) (p hi : ℕ) (xs : List (Node V)) (x : Node V) : Type 0 where
  pub past : p ≤ x.place
  pub near : x.place < hi
  pub here : look z xs x.place ≡ x.cell
  pub none : (q : ℕ) → p ≤ q → q < x.place → look z xs q ≡ z

module _ {V : Type 0} (z : Cell V) (p hi : ℕ) where
  skips : (y : Node V) (ys : List (Node V)) (q : ℕ) → y.place < q → look z (y ∷ ys) q ≡ look z ys q
  skips y ys q l = ap (λ b. cond b y.cell (look z ys q)) (ne_eqb y.place q (λ e. omega arith))

  step : (y : Node V) (ys : List (Node V)) (x : Node V) (b : Bool) → leb p y.place ≡ b → Ascends (y.place + 1) hi ys → (first_from p ys ≡ Some x → First z p hi ys x)
      → cond b (Some y) (first_from p ys) ≡ Some x → First z p hi (y ∷ ys) x
  step y ys x true e h ih s =
      let w : y ≡ x = cc in
      let l = leb-true p y.place e in
      let n = asc_ends (y.place + 1) hi ys h in
      subst (λ (v : Node V). First z p hi (y ∷ ys) v) w
      record {
        past = l;
        near = omega arith;
        here = ap (λ b. cond b y.cell (look z ys y.place)) (eq-eqb y.place y.place refl);
        none = λ q a b. look_high z y.place hi (y ∷ ys) q (omega arith, h) b;
      }
  step y ys x false e h ih s =
      let f = ih s in
      let l = leb-false p y.place e in
      let a = f.past in
      record {
        past = f.past;
        near = f.near;
        here = skips y ys x.place (omega arith) ∙ f.here;
        none = λ q a b. skips y ys q (omega arith) ∙ f.none q a b;
      }

  pub first_is : (lo : ℕ) (xs : List (Node V)) (x : Node V) → Ascends lo hi xs → first_from p xs ≡ Some x → First z p hi xs x
  first_is lo [] x h e = cc
  first_is lo (y ∷ ys) x h e = step y ys x (leb p y.place) refl h.1 (first_is (y.place + 1) ys x h.1) e

  past_last : (xs : List (Node V)) (q : ℕ) → p ≤ q → first_from p xs ≡ None → look z xs q ≡ z
  past_last [] q l h = refl
  past_last (y ∷ ys) q l h = let rest : first_from p ys ≡ None → look z ys q ≡ z = past_last ys q l in grind (arith, nat_tests)

-- the same as the search for a filled cell
module _ {V M : Type 0} (k : Ops V M) (law : Laws k) (r s p : ℕ) (xs : List (Node V)) (asc : Ascends 0 r xs) where
  pub no_next : first_from p xs ≡ None → next_filled k.is_zero (noded k r xs s) p ≡ None
  no_next h = scan_none k.is_zero (look (cell k.zero 1) xs) p (r - p) (λ q l. ap (is_blank k.is_zero) (past_last (cell k.zero 1) p r xs q l h) ∙ z_blank k law)

  module _ (x : Node V) (h : first_from p xs ≡ Some x) where
    is : First (cell k.zero 1) p r xs x
    is = first_is (cell k.zero 1) p r 0 xs x asc h

    pub next_near : (p ≤ x.place) × (x.place < r)
    next_near = (is.past, is.near)

    reached : next_filled k.is_zero (noded k r xs s) p ≡ cond (is_blank k.is_zero x.cell) (scan k.is_zero (look (cell k.zero 1) xs) (x.place + 1) (r - (x.place + 1))) (Some x.place)
    reached =
        let f = is in
        let a = f.past in
        let b = f.near in
        let u = x.place in
        let at : p + (u - p) ≡ u = omega arith in
        scan_skip k.is_zero (look (cell k.zero 1) xs) p (u - p) (suc (r - (u + 1))) (r - p) (omega arith) (λ q l m. ap (is_blank k.is_zero) (f.none q l (omega arith)) ∙ z_blank k law)
        ∙ ap (λ n. scan k.is_zero (look (cell k.zero 1) xs) n (suc (r - (u + 1)))) at
        ∙ ap (λ c. cond (is_blank k.is_zero c) (scan k.is_zero (look (cell k.zero 1) xs) (u + 1) (r - (u + 1))) (Some u)) f.here

    -- where the first node stands, and what is looked for past it if it holds a blank cell
    pub next_here : false ≡ is_blank k.is_zero x.cell → Some x.place ≡ next_filled k.is_zero (noded k r xs s) p
    next_here e = sym (reached ∙ ap (λ b. cond b (scan k.is_zero (look (cell k.zero 1) xs) (x.place + 1) (r - (x.place + 1))) (Some x.place)) (sym e))

    pub next_on : true ≡ is_blank k.is_zero x.cell → next_filled k.is_zero (noded k r xs s) (x.place + 1) ≡ next_filled k.is_zero (noded k r xs s) p
    next_on e = sym (reached ∙ ap (λ b. cond b (scan k.is_zero (look (cell k.zero 1) xs) (x.place + 1) (r - (x.place + 1))) (Some x.place)) (sym e))
