-- What is found in a tree by places.
use Rattle.std.proofs.Common.{◌≡◌, ℕ, zero, suc, ◌+◌, ◌-◌, ◌<◌, ◌≤◌, max, Bool, true, false, cond, eqb, leb, List, [], ◌∷◌, ◌++◌, Some, None, Option, sym, refl, ap, ◌∙◌, arith, leb-false, leb-true}
use Rattle.std.specs.List.{slice_get}
use Rattle.std.proofs.lemmas.Bool.Decides.{nat_tests}
use Rattle.sparse.specs.Listing.{Ascends, first_from, found}
use Rattle.sparse.proofs.Order.{asc_ends}
use Rattle.sparse.specs.declared.node.Node.{Node}
use Rattle.sparse.specs.Trees.{width, listed, Rooted, Tree}
use Rattle.sparse.specs.declared.node.Tip.{Tip}
use Rattle.sparse.specs.declared.part.Part.{Part}
use Rattle.sparse.specs.declared.part.Side.{Side}
use Rattle.sparse.specs.declared.part.Side.TheVariants.{Left, Right}
use Rattle.sparse.specs.Parts.{child, OnSide, IsHalf, TreeOf}
use Rattle.sparse.proofs.Frames.{tree_asc, rooted, rest_asc}
use Rattle.sparse.proofs.Halves.{at_half, on_half}

module _ {V : Type 0} where
  -- what is found on a way down
  pub found_none : (p lo hi : ℕ) (xs : List (Node V)) → Ascends lo hi xs → p < lo → found p xs ≡ None
  found_none p lo hi [] h l = refl
  found_none p lo hi (x ∷ xs) h l = let y = h.0 in let rest = found_none p (x.place + 1) hi xs h.1 (omega arith) in grind (arith, nat_tests)

  pub found_left : (p lo hi : ℕ) (xs ys : List (Node V)) → Ascends lo hi ys → p < lo → found p (xs ++ ys) ≡ found p xs
  found_left p lo hi [] ys h l = found_none p lo hi ys h l
  found_left p lo hi (x ∷ xs) ys h l = ap (λ o. cond (eqb x.place p) (Some x.cell) o) (found_left p lo hi xs ys h l)

  pub found_right : (p lo hi : ℕ) (xs ys : List (Node V)) → Ascends lo hi xs → hi ≤ p → found p (xs ++ ys) ≡ found p ys
  found_right p lo hi [] ys h l = refl
  found_right p lo hi (x ∷ xs) ys h l = let y = asc_ends (x.place + 1) hi xs h.1 in let rest = found_right p (x.place + 1) hi xs ys h.1 l in grind (arith, nat_tests)

  -- a tree with a node has a level
  pub some_suc : (n : ℕ) (ts : List (Tip V)) (a b at : ℕ) (t : Tip V) → Tree n ts a b at → slice_get ts at ≡ Some t → n ≡ suc (n - 1)
  some_suc zero ts a b at t h e = cc
  some_suc (suc n) ts a b at t h e = omega arith

  -- one step of a search
  module _ (m : ℕ) (ts : List (Tip V)) (at a b p : ℕ) (t : Tip V) (now : slice_get ts at ≡ Some t) (tree : Tree (suc m) ts a b at) where
    root : Rooted (Some t) (width m) a b (Tree m ts)
    root = rooted m ts at a b t now tree

    pub found_here : t.node.place ≡ p → Some t.node.cell ≡ found p (listed (suc m) ts at)
    found_here q = rw now (grind (arith, nat_tests))

    on : (t.node.place ≡ p → ⊥) → found p (listed (suc m) ts at) ≡ found p (listed m ts t.left ++ listed m ts t.right)
    on q = rw now (grind (arith, nat_tests))

    low_none : (c : Bool) → leb (t.node.place + 1) p ≡ c → b - width m ≤ p → found p (listed m ts t.left ++ listed m ts t.right) ≡ found p (listed m ts t.right)
    low_none true q l = let w = leb-true (t.node.place + 1) p q in
        found_right p (t.node.place + 1) _ (listed m ts t.left) (listed m ts t.right) (tree_asc m ts (t.node.place + 1) (b - width m) t.left root.2) (omega arith)
    low_none false q l = let w = leb-false (t.node.place + 1) p q in
        found_none p (t.node.place + 1) (max a b) (listed m ts t.left ++ listed m ts t.right) (rest_asc m ts at a b t now tree) (omega arith)
        ∙ sym (found_none p (max (t.node.place + 1) (b - width m)) _ (listed m ts t.right) (tree_asc m ts (max (t.node.place + 1) (b - width m)) b t.right root.3) (omega arith))

    found_side : (s : Side) → (t.node.place ≡ p → ⊥) → OnSide s p (b - width m) → found p (listed m ts (child s t)) ≡ found p (listed (suc m) ts at)
    found_side Left q l = sym (on q ∙ found_left p (max (t.node.place + 1) (b - width m)) _ (listed m ts t.left) (listed m ts t.right) (tree_asc m ts (max (t.node.place + 1) (b - width m)) b t.right root.3) (omega arith))
    found_side Right q l = sym (on q ∙ low_none (leb (t.node.place + 1) p) refl l)

  -- at the node of the place, and at another
  pub found_at : (n : ℕ) (ts : List (Tip V)) (at a b p : ℕ) (t : Tip V) → slice_get ts at ≡ Some t → Tree n ts a b at → t.node.place ≡ p → Some t.node.cell ≡ found p (listed n ts at)
  found_at zero ts at a b p t now tree e = cc
  found_at (suc m) ts at a b p t now tree e = found_here m ts at a b p t now tree e

  pub found_half : (s : Side) (q h : Part) (ts : List (Tip V)) (at p : ℕ) (t : Tip V) → IsHalf s t.node.place q h → slice_get ts at ≡ Some t → TreeOf q ts at
      → (t.node.place ≡ p → ⊥) → OnSide s p (q.end - width (q.level - 1)) → found p (listed h.level ts (child s t)) ≡ found p (listed q.level ts at)
  found_half s q h ts at p t half now tree other o =
      at_half (λ n c d. Tree n ts q.low q.end at → found p (listed h.level ts (child s t)) ≡ found p (listed n ts at)) s t.node.place q h half
      (λ tr. found_side h.level ts at q.low q.end p t now tr s other (on_half s s t.node.place p q h half o)) tree

  -- the first node from a place on
  abbrev pub or_else : Option (Node V) → Option (Node V) → Option (Node V)
  or_else None b = b
  or_else (Some x) b = Some x

  from_both : (p : ℕ) (xs ys : List (Node V)) → first_from p (xs ++ ys) ≡ or_else (first_from p xs) (first_from p ys)
  from_both p [] ys = refl
  from_both p (x ∷ xs) ys =
      let rest = from_both p xs ys in
      elim (leb p x.place) as (λ b. cond b (Some x) (first_from p (xs ++ ys)) ≡ or_else (cond b (Some x) (first_from p xs)) (first_from p ys)) [ true ↦ refl | false ↦ rest ]

  from_past : (p lo hi : ℕ) (xs : List (Node V)) → Ascends lo hi xs → hi ≤ p → first_from p xs ≡ None
  from_past p lo hi [] h l = refl
  from_past p lo hi (x ∷ xs) h l = let y = asc_ends (x.place + 1) hi xs h.1 in let rest = from_past p (x.place + 1) hi xs h.1 l in grind (arith, nat_tests)

  module _ (m : ℕ) (ts : List (Tip V)) (at a b p : ℕ) (t : Tip V) (now : slice_get ts at ≡ Some t) (tree : Tree (suc m) ts a b at) where
    pub from_here : p ≤ t.node.place → Some t.node ≡ first_from p (listed (suc m) ts at)
    from_here l = rw now (grind (arith, nat_tests))

    further : t.node.place < p → first_from p (listed (suc m) ts at) ≡ or_else (first_from p (listed m ts t.left)) (first_from p (listed m ts t.right))
    further l = let both = from_both p (listed m ts t.left) (listed m ts t.right) in rw now (grind (arith, nat_tests))

    none_low : b - width m ≤ p → t.node.place < p → first_from p (listed m ts t.left) ≡ None
    none_low h l = from_past p (t.node.place + 1) _ (listed m ts t.left) (tree_asc m ts (t.node.place + 1) (b - width m) t.left (rooted m ts at a b t now tree).2) (omega arith)

  -- at a node past the place, and at one before it: what the left branch has, or else what the right one has
  pub from_at : (n : ℕ) (ts : List (Tip V)) (at a b p : ℕ) (t : Tip V) → slice_get ts at ≡ Some t → Tree n ts a b at → p ≤ t.node.place → Some t.node ≡ first_from p (listed n ts at)
  from_at zero ts at a b p t now tree l = cc
  from_at (suc m) ts at a b p t now tree l = from_here m ts at a b p t now tree l

  pub from_halves : (s : Side) (q h : Part) (ts : List (Tip V)) (at p : ℕ) (t : Tip V) → IsHalf s t.node.place q h → slice_get ts at ≡ Some t → TreeOf q ts at → t.node.place < p
      → first_from p (listed q.level ts at) ≡ or_else (first_from p (listed h.level ts t.left)) (first_from p (listed h.level ts t.right))
  from_halves s q h ts at p t half now tree l =
      at_half (λ n c d. Tree n ts q.low q.end at → first_from p (listed n ts at) ≡ or_else (first_from p (listed h.level ts t.left)) (first_from p (listed h.level ts t.right))) s t.node.place q h half
      (λ tr. further h.level ts at q.low q.end p t now tr l) tree

  -- the left branch has none at or past the middle
  pub from_high : (s : Side) (q h : Part) (ts : List (Tip V)) (at p : ℕ) (t : Tip V) → IsHalf s t.node.place q h → slice_get ts at ≡ Some t → TreeOf q ts at → t.node.place < p
      → q.end - width (q.level - 1) ≤ p → first_from p (listed h.level ts t.left) ≡ None
  from_high s q h ts at p t half now tree l past =
      at_half (λ n c d. Tree n ts q.low q.end at → first_from p (listed h.level ts t.left) ≡ None) s t.node.place q h half
      (λ tr. none_low h.level ts at q.low q.end p t now tr (on_half s Right t.node.place p q h half past) l) tree
