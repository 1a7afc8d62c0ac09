-- What a tree leaves untouched, and what leaves a tree untouched.
use Rattle.std.proofs.Common.{◌≡◌, ℕ, zero, suc, ◌+◌, ◌-◌, ◌<◌, ◌≤◌, max, ◌⊎◌, List, [], ◌∷◌, ◌++◌, length, set, Some, None, Option, sym, refl, ap, ◌∙◌, subst, ⊎_elim, arith, length-set}
use Rattle.std.specs.List.{slice_get}
use Rattle.std.proofs.lemmas.Grind.{common_steps}
use Rattle.std.proofs.lemmas.List.{get_or-set_same, set-get_or}
use Rattle.std.proofs.lemmas.Option.{gets, get_or_from_slice_get, slice_get_read}
use Rattle.sparse.specs.Listing.{Ascends}
use Rattle.sparse.proofs.Order.{asc_join}
use Rattle.sparse.specs.declared.node.Node.{Node}
use Rattle.sparse.specs.Trees.{width, spread, listed, Rooted, Tree, Within, Apart}
use Rattle.sparse.specs.declared.node.Tip.{Tip}

-- an element put at an index
pub nth_set_same : {X : Type 0} (xs : List X) (i : ℕ) (x : X) → i < length xs → slice_get (set xs i x) i ≡ Some x
nth_set_same xs i x h = slice_get_read (set xs i x) (length (set xs i x)) i x refl (omega (arith, length-set xs i x)) (sym (get_or-set_same xs i x x h))

pub nth_set_other : {X : Type 0} (xs : List X) (i j : ℕ) (x : X) → (j ≡ i → ⊥) → slice_get (set xs i x) j ≡ slice_get xs j
nth_set_other xs i j x h = grind (arith, common_steps, gets)

pub set_same : {X : Type 0} (xs : List X) (i : ℕ) (x : X) → slice_get xs i ≡ Some x → set xs i x ≡ xs
set_same xs i x h = ap (set xs i) (sym (get_or_from_slice_get xs i x x h)) ∙ set-get_or xs i x

module _ {V : Type 0} where
  -- what has a place in [a, b) stands as it stood
  abbrev pub Agree : List (Tip V) → List (Tip V) → ℕ → ℕ → Type 0
  Agree ts us a b = (j : ℕ) → Within a b (slice_get ts j) → slice_get us j ≡ slice_get ts j

  -- a tree's head is in its range, and so in a wider one
  pub top : (o : Option (Tip V)) (w a b : ℕ) (f : ℕ → ℕ → ℕ → Type 0) → Rooted o w a b f → Within a b o
  top None w a b f h = tt
  top (Some t) w a b f h = (h.0, h.1)

  pub wider : (o : Option (Tip V)) (a b c d : ℕ) → c ≤ a → b ≤ d → Within a b o → Within c d o
  wider None a b c d l r h = tt
  wider (Some t) a b c d l r h = let x = h.0 in let y = h.1 in (omega arith, omega arith)

  kept_at : (n : ℕ) (ts us : List (Tip V)) (a b : ℕ) (o : Option (Tip V))
      → ((a b i : ℕ) → Tree n ts a b i → Agree ts us a b → (Tree n us a b i) × (listed n us i ≡ listed n ts i))
      → Rooted o (width n) a b (Tree n ts) → Agree ts us a b
      → (Rooted o (width n) a b (Tree n us)) × (spread o (listed n us) ≡ spread o (listed n ts))
  kept_at n ts us a b None ih h f = (tt, refl)
  kept_at n ts us a b (Some t) ih h f =
      let lo = h.0 in
      let hi = h.1 in
      let l = ih (t.node.place + 1) (b - width n) t.left h.2 (λ j w. f j (wider (slice_get ts j) _ _ _ _ (omega arith) (omega arith) w)) in
      let r = ih (max (t.node.place + 1) (b - width n)) b t.right h.3 (λ j w. f j (wider (slice_get ts j) _ _ _ _ (omega arith) (omega arith) w)) in
      ((lo, hi, l.0, r.0), (λ k. t.node ∷ (l.1 k ++ r.1 k)))

  -- a tree whose nodes stand as they stood is the tree that it was
  pub kept : (n : ℕ) (ts us : List (Tip V)) (a b i : ℕ) → Tree n ts a b i → Agree ts us a b → (Tree n us a b i) × (listed n us i ≡ listed n ts i)
  kept zero ts us a b i h f = (f i (subst (λ (o : Option (Tip V)). Within a b o) (sym h) tt) ∙ h, refl)
  kept (suc n) ts us a b i h f =
      let e : slice_get us i ≡ slice_get ts i = f i (top (slice_get ts i) (width n) a b (Tree n ts) h) in
      let r = kept_at n ts us a b (slice_get ts i) (λ a b i h f. kept n ts us a b i h f) h f in
      (subst (λ (o : Option (Tip V)). Rooted o (width n) a b (Tree n us)) (sym e) r.0, ap (λ o. spread o (listed n us)) e ∙ r.1)

  -- a tree in a range that starts lower
  low_at : (n : ℕ) (ts : List (Tip V)) (a b c : ℕ) (o : Option (Tip V)) → c ≤ a → Rooted o (width n) a b (Tree n ts) → Rooted o (width n) c b (Tree n ts)
  low_at n ts a b c None l h = tt
  low_at n ts a b c (Some t) l h = let x = h.0 in (omega arith, h.1, h.2, h.3)

  pub tree_low : (n : ℕ) (ts : List (Tip V)) (a b c i : ℕ) → c ≤ a → Tree n ts a b i → Tree n ts c b i
  tree_low zero ts a b c i l h = h
  tree_low (suc n) ts a b c i l h = low_at n ts a b c (slice_get ts i) l h

  -- a higher end
  pub asc_taller : (lo hi top : ℕ) (xs : List (Node V)) → hi ≤ top → Ascends lo hi xs → Ascends lo top xs
  asc_taller lo hi top [] l h = omega arith
  asc_taller lo hi top (x ∷ xs) l h = (h.0, asc_taller (x.place + 1) hi top xs l h.1)

  asc_at : (n : ℕ) (ts : List (Tip V)) (a b : ℕ) (o : Option (Tip V)) → ((a b i : ℕ) → Tree n ts a b i → Ascends a (max a b) (listed n ts i))
      → Rooted o (width n) a b (Tree n ts) → Ascends a (max a b) (spread o (listed n ts))
  asc_at n ts a b None ih h = omega arith
  asc_at n ts a b (Some t) ih h =
      let lo = h.0 in
      let hi = h.1 in
      let p = t.node.place in
      let l = ih (p + 1) (b - width n) t.left h.2 in
      let r = ih (max (p + 1) (b - width n)) b t.right h.3 in
      (lo, asc_taller (p + 1) _ _ _ (omega arith) (asc_join (p + 1) (max (p + 1) (b - width n)) (max (max (p + 1) (b - width n)) b) (listed n ts t.left) (listed n ts t.right) l r))

  -- what a tree holds is in order
  pub tree_asc : (n : ℕ) (ts : List (Tip V)) (a b i : ℕ) → Tree n ts a b i → Ascends a (max a b) (listed n ts i)
  tree_asc zero ts a b i h = omega arith
  tree_asc (suc n) ts a b i h = asc_at n ts a b (slice_get ts i) (λ a b i h. tree_asc n ts a b i h) h

  -- no node, and a tree of none
  pub listed_none : (n : ℕ) (ts : List (Tip V)) (i : ℕ) → slice_get ts i ≡ None → listed n ts i ≡ []
  listed_none zero ts i e = refl
  listed_none (suc n) ts i e = ap (λ o. spread o (listed n ts)) e

  pub tree_none : (n : ℕ) (ts : List (Tip V)) (a b i : ℕ) → slice_get ts i ≡ None → Tree n ts a b i
  tree_none zero ts a b i e = e
  tree_none (suc n) ts a b i e = subst (λ (o : Option (Tip V)). Rooted o (width n) a b (Tree n ts)) (sym e) tt

  -- a tree in a range that starts higher
  raise_at : (n : ℕ) (ts : List (Tip V)) (a b c hi : ℕ) (o : Option (Tip V)) → Rooted o (width n) a b (Tree n ts) → Ascends c hi (spread o (listed n ts)) → Rooted o (width n) c b (Tree n ts)
  raise_at n ts a b c hi None h s = tt
  raise_at n ts a b c hi (Some t) h s = (s.0, h.1, h.2, h.3)

  pub tree_raise : (n : ℕ) (ts : List (Tip V)) (a b c hi i : ℕ) → Tree n ts a b i → Ascends c hi (listed n ts i) → Tree n ts c b i
  tree_raise zero ts a b c hi i h s = h
  tree_raise (suc n) ts a b c hi i h s = raise_at n ts a b c hi (slice_get ts i) h s

  -- what a tree's head says, and that what is below it is in order
  pub rooted : (m : ℕ) (ts : List (Tip V)) (at a b : ℕ) (t : Tip V) → slice_get ts at ≡ Some t → Tree (suc m) ts a b at → Rooted (Some t) (width m) a b (Tree m ts)
  rooted m ts at a b t e h = subst (λ (o : Option (Tip V)). Rooted o (width m) a b (Tree m ts)) e h

  pub rest_asc : (m : ℕ) (ts : List (Tip V)) (at a b : ℕ) (t : Tip V) → slice_get ts at ≡ Some t → Tree (suc m) ts a b at → Ascends (t.node.place + 1) (max a b) (listed m ts t.left ++ listed m ts t.right)
  rest_asc m ts at a b t e h = (subst (λ (o : Option (Tip V)). Ascends a (max a b) (spread o (listed m ts))) e (tree_asc (suc m) ts a b at h)).1

  -- an index whose node lies below a range is none of those in it
  pub below_it : (ts : List (Tip V)) (at : ℕ) (t : Tip V) (a b j : ℕ) → slice_get ts at ≡ Some t → t.node.place < a → Within a b (slice_get ts j) → j ≡ at → ⊥
  below_it ts at t a b j e l w q =
      let x = subst (λ (o : Option (Tip V)). Within a b o) (ap (slice_get ts) q ∙ e) w in
      let y = x.0 in omega arith

  -- nodes of one range are apart from another
  pub apart_in : (o : Option (Tip V)) (a b c d : ℕ) → Within a b o → (b ≤ c) ⊎ (d ≤ a) → Apart c d o
  apart_in None a b c d w s = tt
  apart_in (Some t) a b c d w s = λ x y. let l = w.0 in let h = w.1 in ⊎_elim (λ z. omega arith) (λ z. omega arith) s

  pub apart_sub : (o : Option (Tip V)) (a b c d : ℕ) → a ≤ c → d ≤ b → Apart a b o → Apart c d o
  apart_sub None a b c d l h f = tt
  apart_sub (Some t) a b c d l h f = λ x y. f (omega arith) (omega arith)

  pub not_at : (ts : List (Tip V)) (at a b j : ℕ) (t : Tip V) → slice_get ts at ≡ Some t → a ≤ t.node.place → t.node.place < b → Apart a b (slice_get ts j) → j ≡ at → ⊥
  not_at ts at a b j t e lo hi f q = subst (λ (o : Option (Tip V)). Apart a b o) (ap (slice_get ts) q ∙ e) f lo hi
