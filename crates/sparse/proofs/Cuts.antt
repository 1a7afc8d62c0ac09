-- One node less in a tree by places.
use Rattle.std.proofs.Common.{◌≡◌, ℕ, zero, suc, ◌+◌, ◌-◌, ◌<◌, ◌≤◌, max, Bool, true, false, leb, ◌≢◌, List, [], ◌∷◌, ◌++◌, length, get_or, set, Some, None, Option, sym, ap, ◌∙◌, subst, ⊎_elim, arith, leb-false, leb-true, refl}
use Rattle.std.specs.List.{slice_get}
use Rattle.std.proofs.lemmas.Bool.Decides.{nat_tests}
use Rattle.std.proofs.lemmas.Option.{slice_get_cases, slice_get_read, slice_get_within}
use Rattle.sparse.specs.Listing.{Ascends, behind, del, found}
use Rattle.sparse.specs.declared.node.Node.{Node}
use Rattle.sparse.specs.declared.node.Tip.{Tip}
use Rattle.sparse.specs.declared.part.Part.{Part}
use Rattle.sparse.specs.declared.part.Side.{Side}
use Rattle.sparse.specs.declared.part.Side.TheVariants.{Left, Right}
use Rattle.sparse.specs.Parts.{child, with_child, OnSide, half_low, half_end, IsHalf, TreeOf, IsLower}
use Rattle.sparse.specs.Trees.{width, spread, listed, Rooted, Tree, Apart, Inside}
use Rattle.sparse.proofs.Order.{asc_ends, asc_wider}
use Rattle.sparse.proofs.Frames.{rooted, rest_asc, tree_raise, tree_none, listed_none, not_at, nth_set_same, nth_set_other}
use Rattle.sparse.proofs.Halves.{at_half, on_half, past_low, end_in}
use Rattle.sparse.proofs.Grafts.{opposite, tip, joined, grafted, other_asc}
use Rattle.sparse.proofs.Finds.{found_none}

module _ {V : Type 0} where
  -- a node in a range, and in a wider one
  low_in : (o : Option (Tip V)) (t : Tip V) (a b : ℕ) → o ≡ Some t → t.node.place < a → Inside a b o → ⊥
  low_in o t a b e l w = let x = subst (λ (o : Option (Tip V)). Inside a b o) e w in let y = x.0 in omega arith

  wide_in : (o : Option (Tip V)) (a b c d : ℕ) → c ≤ a → b ≤ d → Inside a b o → Inside c d o
  wide_in None a b c d l r h = h
  wide_in (Some t) a b c d l r h = let x = h.0 in let y = h.1 in (omega arith, omega arith)

  -- what is left of a tree with one node less
  pub record Pruned (n : ℕ) (ts us : List (Tip V)) (at free a b : ℕ) (sp : Tip V) (want : List (Node V)) : Type 0 where
    pub list : listed n us at ≡ want
    pub tree : Tree n us a b at
    pub spent : slice_get us free ≡ Some sp
    pub inside : Inside a b (slice_get ts free)
    pub frame : (j : ℕ) → Apart a b (slice_get ts j) → slice_get us j ≡ slice_get ts j

  -- what a node with another below it begins with
  pub heads : (n : ℕ) (ts : List (Tip V)) (a b i : ℕ) (f : Tip V) → Tree n ts a b i → slice_get ts i ≡ Some f
      → (listed n ts i ≡ f.node ∷ behind (listed n ts i)) × (a ≤ f.node.place) × (f.node.place < b) × Ascends (f.node.place + 1) (max a b) (behind (listed n ts i))
  heads zero ts a b i f h e = cc
  heads (suc n) ts a b i f h e =
      let root = rooted n ts i a b f e h in
      let E : listed (suc n) ts i ≡ f.node ∷ (listed n ts f.left ++ listed n ts f.right) = ap (λ o. spread o (listed n ts)) e in (
        E ∙ sym (ap (λ (x : List (Node V)). f.node ∷ behind x) E),
        root.0,
        root.1,
        subst (λ (x : List (Node V)). Ascends (f.node.place + 1) (max a b) (behind x)) (sym E) (rest_asc n ts i a b f e h),
      )

  module _ (m : ℕ) (ts : List (Tip V)) (at a b : ℕ) (t sp : Tip V) (now : slice_get ts at ≡ Some t) (tree : Tree (suc m) ts a b at) where
    root : Rooted (Some t) (width m) a b (Tree m ts)
    root = rooted m ts at a b t now tree

    whole : listed (suc m) ts at ≡ t.node ∷ (listed m ts t.left ++ listed m ts t.right)
    whole = ap (λ o. spread o (listed m ts)) now

    -- a side with a node less, below a head that may have risen
    pruned : (us : List (Tip V)) (r free : ℕ) (v : Node V) (s : Side) (want : List (Node V)) (hi : ℕ) → at < length us → t.node.place ≤ v.place → v.place < b
        → Pruned m ts us r free (half_low s t.node.place (b - width m)) (half_end s (b - width m) b) sp want
        → Tree m us (half_low s v.place (b - width m)) (half_end s (b - width m) b) r → Ascends (half_low (opposite s) v.place (b - width m)) hi (listed m ts (child (opposite s) t))
        → Pruned (suc m) ts (set us at (with_child s r (tip v t.left t.right))) at free a b sp (v ∷ joined s want (listed m ts (child (opposite s) t)))
    pruned us r free v s want hi long low end done grown up =
        let mid = b - width m in
        let d = grafted (λ j. Unit {0}) m ts us at a b r v t now tree long low end (λ j w. tt) s want hi (record { list = done.list; tree = done.tree; frame = λ j _. done.frame j }) grown up in
        let l = past_low s t.node.place mid in
        let lo = root.0 in
        record {
          list = d.list;
          tree = d.tree;
          spent = nth_set_other us at free _ (λ q. low_in (slice_get ts free) t (half_low s t.node.place mid) (half_end s mid b) (ap (slice_get ts) q ∙ now) l done.inside) ∙ done.spent;
          inside = wide_in (slice_get ts free) (half_low s t.node.place mid) (half_end s mid b) a b (omega arith) (end_in s (width m) b) done.inside;
          frame = λ j. d.frame j tt;
        }

    -- the least node below rises, and the head goes
    risen : (us : List (Tip V)) (r free : ℕ) (f : Tip V) (s : Side) → at < length us → IsLower s (slice_get ts t.left) → slice_get ts (child s t) ≡ Some f
        → Pruned m ts us r free (half_low s t.node.place (b - width m)) (half_end s (b - width m) b) sp (behind (listed m ts (child s t)))
        → Pruned (suc m) ts (set us at (with_child s r (tip f.node t.left t.right))) at free a b sp (behind (listed (suc m) ts at))
    risen us r free f Left long low e done =
        let p = t.node.place in
        let mid = b - width m in
        let H = heads m ts (p + 1) mid t.left f root.2 e in
        let l1 = H.1 in
        let l2 = H.2 in
        let want : f.node ∷ (behind (listed m ts t.left) ++ listed m ts t.right) ≡ behind (listed (suc m) ts at) = ap (λ x. x ++ listed m ts t.right) (sym H.0) ∙ sym (ap behind whole) in
        subst (λ (x : List (Node V)). Pruned (suc m) ts (set us at (tip f.node r t.right)) at free a b sp x) want
        (pruned us r free f.node Left (behind (listed m ts t.left)) (max (max (p + 1) mid) b) long (omega arith) (omega arith) done
        (tree_raise m us (p + 1) mid (f.node.place + 1) (max (p + 1) mid) r done.tree (subst (λ (x : List (Node V)). Ascends (f.node.place + 1) (max (p + 1) mid) x) (sym done.list) H.3))
        (asc_wider (max (f.node.place + 1) mid) (max (p + 1) mid) _ (listed m ts t.right) (omega arith) (other_asc Left m ts at a b t now tree)))
    risen us r free f Right long low e done =
        let p = t.node.place in
        let mid = b - width m in
        let H = heads m ts (max (p + 1) mid) b t.right f root.3 e in
        let l1 = H.1 in
        let l2 = H.2 in
        let q : f.node.place + 1 ≡ max (f.node.place + 1) mid = omega arith in
        let void = listed_none m ts t.left low in
        let want : f.node ∷ (listed m ts t.left ++ behind (listed m ts t.right)) ≡ behind (listed (suc m) ts at) =
        ap (λ x. f.node ∷ (x ++ behind (listed m ts t.right))) void ∙ sym H.0 ∙ sym (ap behind whole ∙ ap (λ x. x ++ listed m ts t.right) void) in
        subst (λ (x : List (Node V)). Pruned (suc m) ts (set us at (tip f.node t.left r)) at free a b sp x) want
        (pruned us r free f.node Right (behind (listed m ts t.right)) (f.node.place + 1) long (omega arith) (omega arith) done
        (tree_raise m us (max (p + 1) mid) b (max (f.node.place + 1) mid) (max (max (p + 1) mid) b) r done.tree
        (subst (λ (x : List (Node V)). Ascends (max (f.node.place + 1) mid) (max (max (p + 1) mid) b) x) (sym done.list) (subst (λ (k : ℕ). Ascends k (max (max (p + 1) mid) b) (behind (listed m ts t.right))) q H.3)))
        (subst (λ (x : List (Node V)). Ascends (f.node.place + 1) (f.node.place + 1) x) (sym void) (omega arith)))

    no_left : (s : Side) → IsLower s (slice_get ts t.left) → slice_get ts (child s t) ≡ None → slice_get ts t.left ≡ None
    no_left Left low none = absurd (low none)
    no_left Right low none = low

    no_right : (s : Side) → IsLower s (slice_get ts t.left) → slice_get ts (child s t) ≡ None → slice_get ts t.right ≡ None
    no_right Left low none = absurd (low none)
    no_right Right low none = none

    -- a node with none below it goes
    alone : (s : Side) → IsLower s (slice_get ts t.left) → slice_get ts (child s t) ≡ None → Pruned (suc m) ts (set ts at sp) (child s t) at a b sp (behind (listed (suc m) ts at))
    alone s low none =
        let i = child s t in
        let void : slice_get (set ts at sp) i ≡ None = nth_set_other ts at i sp (λ q. let e : None ≡ Some t = sym none ∙ ap (slice_get ts) q ∙ now in cc) ∙ none in
        let nl = listed_none m ts t.left (no_left s low none) in
        let nr = listed_none m ts t.right (no_right s low none) in
        record {
          list = listed_none (suc m) (set ts at sp) i void ∙ sym (ap behind whole ∙ (λ k. nl k ++ nr k));
          tree = tree_none (suc m) (set ts at sp) a b i void;
          spent = nth_set_same ts at sp (slice_get_within ts at t now);
          inside = subst (λ (o : Option (Tip V)). Inside a b o) (sym now) (root.0, root.1);
          frame = λ j ap. nth_set_other ts at j sp (not_at ts at a b j t now root.0 root.1 ap);
        }

  -- the same at a part: the head is taken out
  pub alone_in : (s : Side) (n : ℕ) (ts : List (Tip V)) (at a b i : ℕ) (t sp : Tip V) → slice_get ts at ≡ Some t → Tree n ts a b at → i ≡ child s t → IsLower s (slice_get ts t.left) → slice_get ts i ≡ None
      → Pruned n ts (set ts at sp) i at a b sp (behind (listed n ts at))
  alone_in s zero ts at a b i t sp now tree is low none = cc
  alone_in s (suc m) ts at a b i t sp now tree is low none =
      subst (λ (k : ℕ). Pruned (suc m) ts (set ts at sp) k at a b sp (behind (listed (suc m) ts at))) (sym is)
      (alone m ts at a b t sp now tree s low (subst (λ (k : ℕ). slice_get ts k ≡ None) is none))

  pub risen_in : (s : Side) (q h : Part) (ts us : List (Tip V)) (at i r free : ℕ) (t f sp : Tip V) → IsHalf s t.node.place q h → slice_get ts at ≡ Some t → TreeOf q ts at → at < length us
      → i ≡ child s t → IsLower s (slice_get ts t.left) → slice_get ts i ≡ Some f → Pruned h.level ts us r free h.low h.end sp (behind (listed h.level ts i))
      → Pruned q.level ts (set us at (with_child s r (tip f.node t.left t.right))) at free q.low q.end sp (behind (listed q.level ts at))
  risen_in s q h ts us at i r free t f sp half now tree long is low e done =
      at_half (λ n c d. Tree n ts q.low q.end at → Pruned h.level ts us r free c d sp (behind (listed h.level ts (child s t)))
      → Pruned n ts (set us at (with_child s r (tip f.node t.left t.right))) at free q.low q.end sp (behind (listed n ts at))) s t.node.place q h half
      (λ tr d. risen h.level ts at q.low q.end t sp now tr us r free f s long low (subst (λ (k : ℕ). slice_get ts k ≡ Some f) is e) d) tree
      (subst (λ (k : ℕ). Pruned h.level ts us r free h.low h.end sp (behind (listed h.level ts k))) is done)

  -- a node taken out of nodes in order
  del_none : (p lo hi : ℕ) (xs : List (Node V)) → Ascends lo hi xs → p < lo → del p xs ≡ xs
  del_none p lo hi [] h l = refl
  del_none p lo hi (x ∷ xs) h l = let y = h.0 in let rest = del_none p (x.place + 1) hi xs h.1 (omega arith) in grind (arith, nat_tests)

  del_left : (p lo hi : ℕ) (xs ys : List (Node V)) → Ascends lo hi ys → p < lo → del p (xs ++ ys) ≡ del p xs ++ ys
  del_left p lo hi [] ys h l = del_none p lo hi ys h l
  del_left p lo hi (x ∷ xs) ys h l = let rest = del_left p lo hi xs ys h l in grind (arith, nat_tests)

  del_right : (p lo hi : ℕ) (xs ys : List (Node V)) → Ascends lo hi xs → hi ≤ p → del p (xs ++ ys) ≡ xs ++ del p ys
  del_right p lo hi [] ys h l = refl
  del_right p lo hi (x ∷ xs) ys h l = let y = asc_ends (x.place + 1) hi xs h.1 in let rest = del_right p (x.place + 1) hi xs ys h.1 l in grind (arith, nat_tests)

  module _ (p m : ℕ) (ts : List (Tip V)) (at a b : ℕ) (t : Tip V) (now : slice_get ts at ≡ Some t) (tree : Tree (suc m) ts a b at) where
    pub del_here : t.node.place ≡ p → behind (listed (suc m) ts at) ≡ del p (listed (suc m) ts at)
    del_here q = rw now (grind (arith, nat_tests))

    -- a place that has a node is not before the head
    past_at : (c : Bool) → leb t.node.place p ≡ c → found p (listed (suc m) ts at) ≢ None → t.node.place ≤ p
    past_at true e held = leb-true t.node.place p e
    past_at false e held =
        let l = leb-false t.node.place p e in
        absurd (held (found_none p t.node.place (max a b) (listed (suc m) ts at) (subst (λ (x : List (Node V)). Ascends t.node.place (max a b) x) (sym (whole m ts at a b t t now tree)) (omega arith, rest_asc m ts at a b t now tree)) l))

    pub past : found p (listed (suc m) ts at) ≢ None → t.node.place ≤ p
    past held = past_at (leb t.node.place p) refl held

    skip : t.node.place ≢ p → del p (listed (suc m) ts at) ≡ t.node ∷ del p (listed m ts t.left ++ listed m ts t.right)
    skip q = rw now (grind (arith, nat_tests))

    -- a node less at a side
    del_side : (s : Side) → t.node.place ≢ p → t.node.place ≤ p → OnSide s p (b - width m) → del p (listed (suc m) ts at) ≡ t.node ∷ joined s (del p (listed m ts (child s t))) (listed m ts (child (opposite s) t))
    del_side Left other l o = skip other ∙ ap (λ x. t.node ∷ x) (del_left p (max (t.node.place + 1) (b - width m)) _ (listed m ts t.left) (listed m ts t.right) (other_asc Left m ts at a b t now tree) (omega arith))
    del_side Right other l o = skip other ∙ ap (λ x. t.node ∷ x) (del_right p (t.node.place + 1) _ (listed m ts t.left) (listed m ts t.right) (other_asc Right m ts at a b t now tree) (omega arith))

  pub del_head : (n : ℕ) (ts : List (Tip V)) (at a b p : ℕ) (t : Tip V) → slice_get ts at ≡ Some t → Tree n ts a b at → t.node.place ≡ p → behind (listed n ts at) ≡ del p (listed n ts at)
  del_head zero ts at a b p t now tree q = cc
  del_head (suc m) ts at a b p t now tree q = del_here p m ts at a b t now tree q

  -- a place that has a node
  pub held_lt : (n : ℕ) (ts : List (Tip V)) (at p : ℕ) → found p (listed n ts at) ≢ None → at < length ts
  held_lt n ts at p held = ⊎_elim (λ z. z.1) (λ z. absurd (held (ap (found p) (listed_none n ts at z.1)))) (slice_get_cases ts at).1

  pub held_is : (n : ℕ) (ts : List (Tip V)) (at p : ℕ) (t : Tip V) → found p (listed n ts at) ≢ None → t ≡ get_or ts at t → slice_get ts at ≡ Some t
  held_is n ts at p t held e = slice_get_read ts (length ts) at t refl (held_lt n ts at p held) e

  removed_at : (s : Side) (p m : ℕ) (ts us : List (Tip V)) (at a b r free : ℕ) (t sp : Tip V) → slice_get ts at ≡ Some t → Tree (suc m) ts a b at → at < length us
      → found p (listed (suc m) ts at) ≢ None → t.node.place ≢ p → OnSide s p (b - width m)
      → Pruned m ts us r free (half_low s t.node.place (b - width m)) (half_end s (b - width m) b) sp (del p (listed m ts (child s t)))
      → Pruned (suc m) ts (set us at (with_child s r t)) at free a b sp (del p (listed (suc m) ts at))
  removed_at s p m ts us at a b r free t sp now tree long held other o done =
      let root = rooted m ts at a b t now tree in
      subst (λ (x : List (Node V)). Pruned (suc m) ts (set us at (with_child s r t)) at free a b sp x) (sym (del_side p m ts at a b t now tree s other (past p m ts at a b t now tree held) o))
      (pruned m ts at a b t sp now tree us r free t.node s (del p (listed m ts (child s t))) _ long (omega arith) root.1 done done.tree (other_asc s m ts at a b t now tree))

  pub removed_in : (s : Side) (q h : Part) (ts us : List (Tip V)) (at i r free p : ℕ) (t sp : Tip V) → IsHalf s t.node.place q h → slice_get ts at ≡ Some t → TreeOf q ts at → at < length us → i ≡ child s t
      → found p (listed q.level ts at) ≢ None → t.node.place ≢ p → OnSide s p (q.end - width (q.level - 1)) → Pruned h.level ts us r free h.low h.end sp (del p (listed h.level ts i))
      → Pruned q.level ts (set us at (with_child s r t)) at free q.low q.end sp (del p (listed q.level ts at))
  removed_in s q h ts us at i r free p t sp half now tree long is held other o done =
      at_half (λ n c d. Tree n ts q.low q.end at → found p (listed n ts at) ≢ None → Pruned h.level ts us r free c d sp (del p (listed h.level ts (child s t)))
      → Pruned n ts (set us at (with_child s r t)) at free q.low q.end sp (del p (listed n ts at))) s t.node.place q h half
      (λ tr hd d. removed_at s p h.level ts us at q.low q.end r free t sp now tr long hd other (on_half s s t.node.place p q h half o) d) tree held
      (subst (λ (k : ℕ). Pruned h.level ts us r free h.low h.end sp (del p (listed h.level ts k))) is done)
