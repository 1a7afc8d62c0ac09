-- A tree with another tree at one side of its head.
use Rattle.std.proofs.Common.{◌≡◌, ℕ, suc, ◌+◌, ◌-◌, ◌<◌, ◌≤◌, max, List, ◌∷◌, ◌++◌, length, set, Some, Option, sym, ap, ◌∙◌, subst, inl, inr, arith}
use Rattle.std.specs.List.{slice_get}
use Rattle.sparse.specs.Listing.{Ascends}
use Rattle.sparse.specs.declared.node.Node.{Node}
use Rattle.sparse.specs.declared.node.Tip.{Tip}
use Rattle.sparse.specs.declared.part.Part.{Part}
use Rattle.sparse.specs.declared.part.Side.{Side}
use Rattle.sparse.specs.declared.part.Side.TheVariants.{Left, Right}
use Rattle.sparse.specs.Parts.{child, with_child, half_low, half_end, IsHalf, TreeOf}
use Rattle.sparse.specs.Trees.{width, spread, listed, Rooted, Tree, Within, Apart}
use Rattle.sparse.proofs.Frames.{kept, wider, rooted, tree_asc, tree_raise, below_it, apart_in, apart_sub, not_at, nth_set_same, nth_set_other}
use Rattle.sparse.proofs.Halves.{at_half}

abbrev pub opposite : Side → Side
opposite Left = Right
opposite Right = Left

module _ {V : Type 0} where
  -- a node with two branches
  abbrev pub tip : Node V → ℕ → ℕ → Tip V
  tip v l r = record { node = v; left = l; right = r }

  -- the nodes of a side, and those of the other
  abbrev pub joined : Side → List (Node V) → List (Node V) → List (Node V)
  joined Left xs ys = xs ++ ys
  joined Right xs ys = ys ++ xs

  -- what a tree of these nodes is after a change: what has no place in it stands as it stood, if it may not be changed
  pub record Changed (Still : ℕ → Type 0) (n : ℕ) (ts us : List (Tip V)) (at a b : ℕ) (want : List (Node V)) : Type 0 where
    pub list : listed n us at ≡ want
    pub tree : Tree n us a b at
    pub frame : (j : ℕ) → Still j → Apart a b (slice_get ts j) → slice_get us j ≡ slice_get ts j

  -- the head and its branches, by a side
  pub open_at : (s : Side) (m : ℕ) (ts : List (Tip V)) (at : ℕ) (t : Tip V) → slice_get ts at ≡ Some t
      → listed (suc m) ts at ≡ t.node ∷ joined s (listed m ts (child s t)) (listed m ts (child (opposite s) t))
  open_at Left m ts at t now = ap (λ o. spread o (listed m ts)) now
  open_at Right m ts at t now = ap (λ o. spread o (listed m ts)) now

  module _ (Still : ℕ → Type 0) (m : ℕ) (ts us : List (Tip V)) (at a b r : ℕ) (v : Node V) (t : Tip V) (now : slice_get ts at ≡ Some t) (tree : Tree (suc m) ts a b at)
      (long : at < length us) (low : t.node.place ≤ v.place) (end : v.place < b) (still : (j : ℕ) → Within a b (slice_get ts j) → Still j) where
    root : Rooted (Some t) (width m) a b (Tree m ts)
    root = rooted m ts at a b t now tree

    still_at : Still at
    still_at = still at (subst (λ (o : Option (Tip V)). Within a b o) (sym now) (root.0, root.1))

    -- a changed tree at a side, below a head that may have risen
    pub grafted : (s : Side) (want : List (Node V)) (hi : ℕ) → Changed Still m ts us r (half_low s t.node.place (b - width m)) (half_end s (b - width m) b) want
        → Tree m us (half_low s v.place (b - width m)) (half_end s (b - width m) b) r → Ascends (half_low (opposite s) v.place (b - width m)) hi (listed m ts (child (opposite s) t))
        → Changed Still (suc m) ts (set us at (with_child s r (tip v t.left t.right))) at a b (v ∷ joined s want (listed m ts (child (opposite s) t)))
    grafted Left want hi done grown up =
        let z = tip v r t.right in
        let xs = set us at z in
        let p = t.node.place in
        let mid = b - width m in
        let lo = root.0 in
        let same : slice_get xs at ≡ Some z = nth_set_same us at z long in
        let held : slice_get us at ≡ Some t = done.frame at still_at (subst (λ (o : Option (Tip V)). Apart (p + 1) mid o) (sym now) (λ x y. omega arith)) ∙ now in
        let L = kept m us xs (v.place + 1) mid r grown (λ j w. nth_set_other us at j z (below_it us at t (v.place + 1) mid j held (omega arith) w)) in
        let R = kept m ts xs (max (p + 1) mid) b t.right root.3 (λ j w.
        nth_set_other us at j z (below_it ts at t (max (p + 1) mid) b j now (omega arith) w)
        ∙ done.frame j (still j (wider (slice_get ts j) _ _ a b (omega arith) (omega arith) w)) (apart_in (slice_get ts j) (max (p + 1) mid) b (p + 1) mid w (inr (omega arith)))) in
        record {
          list = ap (λ o. spread o (listed m xs)) same ∙ (λ i. v ∷ ((L.1 ∙ done.list) i ++ R.1 i));
          tree = subst (λ (o : Option (Tip V)). Rooted o (width m) a b (Tree m xs)) (sym same)
              (omega arith, end, L.0, tree_raise m xs (max (p + 1) mid) b (max (v.place + 1) mid) hi t.right R.0 (subst (λ (x : List (Node V)). Ascends (max (v.place + 1) mid) hi x) (sym R.1) up));
          frame = λ j free ap. nth_set_other us at j z (not_at ts at a b j t now root.0 root.1 ap) ∙ done.frame j free (apart_sub (slice_get ts j) a b (p + 1) mid (omega arith) (omega arith) ap);
        }
    grafted Right want hi done grown up =
        let z = tip v t.left r in
        let xs = set us at z in
        let p = t.node.place in
        let mid = b - width m in
        let lo = root.0 in
        let same : slice_get xs at ≡ Some z = nth_set_same us at z long in
        let held : slice_get us at ≡ Some t = done.frame at still_at (subst (λ (o : Option (Tip V)). Apart (max (p + 1) mid) b o) (sym now) (λ x y. omega arith)) ∙ now in
        let R = kept m us xs (max (v.place + 1) mid) b r grown (λ j w. nth_set_other us at j z (below_it us at t (max (v.place + 1) mid) b j held (omega arith) w)) in
        let L = kept m ts xs (p + 1) mid t.left root.2 (λ j w.
        nth_set_other us at j z (below_it ts at t (p + 1) mid j now (omega arith) w)
        ∙ done.frame j (still j (wider (slice_get ts j) _ _ a b (omega arith) (omega arith) w)) (apart_in (slice_get ts j) (p + 1) mid (max (p + 1) mid) b w (inl (omega arith)))) in
        record {
          list = ap (λ o. spread o (listed m xs)) same ∙ (λ i. v ∷ (L.1 i ++ (R.1 ∙ done.list) i));
          tree = subst (λ (o : Option (Tip V)). Rooted o (width m) a b (Tree m xs)) (sym same)
              (omega arith, end, tree_raise m xs (p + 1) mid (v.place + 1) hi t.left L.0 (subst (λ (x : List (Node V)). Ascends (v.place + 1) hi x) (sym L.1) up), R.0);
          frame = λ j free ap. nth_set_other us at j z (not_at ts at a b j t now root.0 root.1 ap) ∙ done.frame j free (apart_sub (slice_get ts j) a b (max (p + 1) mid) b (omega arith) (omega arith) ap);
        }

  -- what the other side holds is in order, past the head
  pub other_asc : (s : Side) (m : ℕ) (ts : List (Tip V)) (at a b : ℕ) (t : Tip V) → slice_get ts at ≡ Some t → Tree (suc m) ts a b at
      → Ascends (half_low (opposite s) t.node.place (b - width m)) (max (half_low (opposite s) t.node.place (b - width m)) (half_end (opposite s) (b - width m) b)) (listed m ts (child (opposite s) t))
  other_asc Left m ts at a b t now tree = tree_asc m ts (max (t.node.place + 1) (b - width m)) b t.right (rooted m ts at a b t now tree).3
  other_asc Right m ts at a b t now tree = tree_asc m ts (t.node.place + 1) (b - width m) t.left (rooted m ts at a b t now tree).2

  -- a changed tree at a side, below the same head
  pub relinked : (Still : ℕ → Type 0) (s : Side) (q h : Part) (ts us : List (Tip V)) (at r : ℕ) (t : Tip V) (want : List (Node V)) → IsHalf s t.node.place q h → slice_get ts at ≡ Some t → TreeOf q ts at
      → at < length us → ((j : ℕ) → Within q.low q.end (slice_get ts j) → Still j) → Changed Still h.level ts us r h.low h.end want
      → Changed Still q.level ts (set us at (with_child s r t)) at q.low q.end (t.node ∷ joined s want (listed h.level ts (child (opposite s) t)))
  relinked Still s q h ts us at r t want half now tree long still done =
      at_half (λ n c d. Tree n ts q.low q.end at → Changed Still h.level ts us r c d want
      → Changed Still n ts (set us at (with_child s r t)) at q.low q.end (t.node ∷ joined s want (listed h.level ts (child (opposite s) t)))) s t.node.place q h half
      (λ tr ch. let root = rooted h.level ts at q.low q.end t now tr in
      grafted Still h.level ts us at q.low q.end r t.node t now tr long (omega arith) root.1 still s want _ ch ch.tree (other_asc s h.level ts at q.low q.end t now tr)) tree done
