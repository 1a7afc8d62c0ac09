-- Another cell in a node of a tree by places.
use Rattle.std.proofs.Common.{◌≡◌, ℕ, zero, suc, ◌+◌, ◌-◌, ◌<◌, ◌≤◌, max, Bool, true, false, leb, List, [], ◌∷◌, ◌++◌, set, Some, sym, refl, ap, ◌∙◌, subst, arith, leb-false, leb-true}
use Rattle.std.specs.List.{slice_get}
use Rattle.std.proofs.lemmas.Bool.Decides.{nat_tests}
use Rattle.std.proofs.lemmas.Option.{slice_get_within}
use Rattle.stores.specs.declared.cell.Cell.{Cell}
use Rattle.sparse.specs.Listing.{Ascends, node, over}
use Rattle.sparse.specs.Trees.{width, spread, listed, Rooted, Tree, Apart}
use Rattle.sparse.specs.Parts.{child, with_child, OnSide, IsHalf, TreeOf, KeptApart}
use Rattle.sparse.specs.declared.node.Node.{Node}
use Rattle.sparse.specs.declared.node.Tip.{Tip}
use Rattle.sparse.specs.declared.part.Part.{Part}
use Rattle.sparse.specs.declared.part.Side.{Side}
use Rattle.sparse.specs.declared.part.Side.TheVariants.{Left, Right}
use Rattle.sparse.proofs.Order.{asc_ends}
use Rattle.sparse.proofs.Frames.{rooted, rest_asc, tree_asc, set_same}
use Rattle.sparse.proofs.Halves.{at_half, on_half, half_past}
use Rattle.sparse.proofs.Grafts.{opposite, tip, joined, Changed, grafted, relinked, other_asc}

same_child : {V : Type 0} (s : Side) (t : Tip V) → with_child s (child s t) t ≡ t
same_child Left t = refl
same_child Right t = refl

module _ {V : Type 0} (p : ℕ) (c : Cell V) where
  -- nodes past a place, and before it
  over_none : (lo hi : ℕ) (xs : List (Node V)) → Ascends lo hi xs → p < lo → over p c xs ≡ xs
  over_none lo hi [] h l = refl
  over_none lo hi (x ∷ xs) h l = let y = h.0 in let rest = over_none (x.place + 1) hi xs h.1 (omega arith) in grind (arith, nat_tests)

  over_left : (lo hi : ℕ) (xs ys : List (Node V)) → Ascends lo hi ys → p < lo → over p c (xs ++ ys) ≡ over p c xs ++ ys
  over_left lo hi [] ys h l = over_none lo hi ys h l
  over_left lo hi (x ∷ xs) ys h l = let rest = over_left lo hi xs ys h l in grind (arith, nat_tests)

  over_right : (lo hi : ℕ) (xs ys : List (Node V)) → Ascends lo hi xs → hi ≤ p → over p c (xs ++ ys) ≡ xs ++ over p c ys
  over_right lo hi [] ys h l = refl
  over_right lo hi (x ∷ xs) ys h l = let y = asc_ends (x.place + 1) hi xs h.1 in let rest = over_right (x.place + 1) hi xs ys h.1 l in grind (arith, nat_tests)

  module _ (m : ℕ) (ts : List (Tip V)) (at a b : ℕ) (t : Tip V) (now : slice_get ts at ≡ Some t) (tree : Tree (suc m) ts a b at) where
    root : Rooted (Some t) (width m) a b (Tree m ts)
    root = rooted m ts at a b t now tree

    whole : listed (suc m) ts at ≡ t.node ∷ (listed m ts t.left ++ listed m ts t.right)
    whole = ap (λ o. spread o (listed m ts)) now

    -- at the node itself
    pub over_here : t.node.place ≡ p → Changed (λ j. Unit {0}) (suc m) ts (set ts at (tip (node p c) t.left t.right)) at a b (over p c (listed (suc m) ts at))
    over_here q =
        let mid = b - width m in
        let hi = root.1 in
        let same : Changed (λ j. Unit {0}) m ts ts t.left (t.node.place + 1) mid (listed m ts t.left) = record { list = refl; tree = root.2; frame = λ j s ap. refl } in
        let d = grafted (λ j. Unit {0}) m ts ts at a b t.left (node p c) t now tree (slice_get_within ts at t now) (omega arith) (omega arith) (λ j w. tt) Left (listed m ts t.left) _ same
        (subst (λ (k : ℕ). Tree m ts (k + 1) mid t.left) q root.2)
        (subst (λ (k : ℕ). Ascends (max (k + 1) mid) (max (max (t.node.place + 1) mid) b) (listed m ts t.right)) q (other_asc Left m ts at a b t now tree)) in
        record {
          list = d.list ∙ rw now (grind (arith, nat_tests));
          tree = d.tree;
          frame = d.frame;
        }

    module _ (other : t.node.place ≡ p → ⊥) where
      skip : over p c (listed (suc m) ts at) ≡ t.node ∷ over p c (listed m ts t.left ++ listed m ts t.right)
      skip = rw now (grind (arith, nat_tests))

      past : (e : Bool) → leb (t.node.place + 1) p ≡ e → b - width m ≤ p
          → over p c (listed m ts t.left ++ listed m ts t.right) ≡ listed m ts t.left ++ over p c (listed m ts t.right)
      past true q l =
          let w = leb-true (t.node.place + 1) p q in
          over_right (t.node.place + 1) _ (listed m ts t.left) (listed m ts t.right) (tree_asc m ts (t.node.place + 1) (b - width m) t.left root.2) (omega arith)
      past false q l =
          let w = leb-false (t.node.place + 1) p q in
          over_none (t.node.place + 1) (max a b) (listed m ts t.left ++ listed m ts t.right) (rest_asc m ts at a b t now tree) (omega arith)
          ∙ ap (λ x. listed m ts t.left ++ x)
          (sym (over_none (max (t.node.place + 1) (b - width m)) _ (listed m ts t.right) (tree_asc m ts (max (t.node.place + 1) (b - width m)) b t.right root.3) (omega arith)))

      -- at a side
      over_side : (s : Side) → OnSide s p (b - width m) → over p c (listed (suc m) ts at) ≡ t.node ∷ joined s (over p c (listed m ts (child s t))) (listed m ts (child (opposite s) t))
      over_side Left l = skip ∙ ap (λ x. t.node ∷ x) (over_left (max (t.node.place + 1) (b - width m)) _ (listed m ts t.left) (listed m ts t.right) (other_asc Left m ts at a b t now tree) (omega arith))
      over_side Right l = skip ∙ ap (λ x. t.node ∷ x) (past (leb (t.node.place + 1) p) refl l)

  -- a changed cell at the head of a tree
  pub over_head : (n : ℕ) (ts : List (Tip V)) (at a b : ℕ) (t : Tip V) → slice_get ts at ≡ Some t → Tree n ts a b at → t.node.place ≡ p
      → Changed (λ j. Unit {0}) n ts (set ts at (tip (node p c) t.left t.right)) at a b (over p c (listed n ts at))
  over_head zero ts at a b t now tree q = cc
  over_head (suc m) ts at a b t now tree q = over_here m ts at a b t now tree q

  -- and below it
  pub over_half : (s : Side) (q h : Part) (ts us : List (Tip V)) (at i : ℕ) (t : Tip V) → IsHalf s t.node.place q h → slice_get ts at ≡ Some t → TreeOf q ts at → i ≡ child s t
      → (t.node.place ≡ p → ⊥) → OnSide s p (q.end - width (q.level - 1)) → listed h.level us i ≡ over p c (listed h.level ts i) → TreeOf h us i → KeptApart h ts us
      → Changed (λ j. Unit {0}) q.level ts us at q.low q.end (over p c (listed q.level ts at))
  over_half s q h ts us at i t half now tree is other o list new kept =
      let lo = half_past s t.node.place q h half in
      let held : slice_get us at ≡ Some t = kept at (subst (λ o. Apart h.low h.end o) (sym now) (λ x y. omega arith)) ∙ now in
      let done : Changed (λ j. Unit {0}) h.level ts us (child s t) h.low h.end (over p c (listed h.level ts (child s t))) =
      subst (λ (k : ℕ). Changed (λ j. Unit {0}) h.level ts us k h.low h.end (over p c (listed h.level ts k))) is (record { list = list; tree = new; frame = λ j s. kept j }) in
      let d = relinked (λ j. Unit {0}) s q h ts us at (child s t) t (over p c (listed h.level ts (child s t))) half now tree (slice_get_within us at t held) (λ j w. tt) done in
      let want = at_half (λ n c2 d. Tree n ts q.low q.end at → over p c (listed n ts at) ≡ t.node ∷ joined s (over p c (listed h.level ts (child s t))) (listed h.level ts (child (opposite s) t)))
      s t.node.place q h half (λ tr. over_side h.level ts at q.low q.end t now tr other s (on_half s s t.node.place p q h half o)) tree in
      subst (λ (x : List (Node V)). Changed (λ j. Unit {0}) q.level ts us at q.low q.end x) (sym want)
      (subst (λ (x : List (Tip V)). Changed (λ j. Unit {0}) q.level ts x at q.low q.end (t.node ∷ joined s (over p c (listed h.level ts (child s t))) (listed h.level ts (child (opposite s) t)))) (ap (set us at) (same_child s t) ∙ set_same us at t held) d)
