-- One node more in a tree by places.
use Rattle.std.proofs.Common.{◌≡◌, ℕ, zero, suc, ◌+◌, ◌-◌, ◌<◌, ◌≤◌, max, Bool, true, false, cond, ltb, List, [], ◌∷◌, ◌++◌, length, set, Some, None, Option, sym, refl, ap, ◌∙◌, subst, arith, ltb-false, ltb-true}
use Rattle.std.specs.List.{slice_get}
use Rattle.std.proofs.lemmas.Bool.Decides.{nat_tests}
use Rattle.std.proofs.lemmas.Option.{slice_get_within}
use Rattle.sparse.specs.Listing.{Absent, Ascends, ins, lesser, greater}
use Rattle.sparse.specs.declared.node.Node.{Node}
use Rattle.sparse.specs.declared.node.Tip.{Tip}
use Rattle.sparse.specs.declared.part.Part.{Part}
use Rattle.sparse.specs.declared.part.Side.{Side}
use Rattle.sparse.specs.declared.part.Side.TheVariants.{Left, Right}
use Rattle.sparse.specs.Parts.{child, with_child, OnSide, IsHalf, InPart, TreeOf}
use Rattle.sparse.specs.Trees.{width, spread, listed, Rooted, Tree, Within, Apart, Above}
use Rattle.sparse.proofs.Order.{asc_ends}
use Rattle.sparse.proofs.Frames.{kept, tree_low, tree_none, listed_none, rooted, rest_asc, below_it, not_at, nth_set_same, nth_set_other}
use Rattle.sparse.proofs.Halves.{at_half, on_half, stands, half_tree, half_within, half_holds}
use Rattle.sparse.proofs.Grafts.{opposite, tip, joined, Changed, open_at, other_asc, relinked}

module _ {V : Type 0} where
  -- where a node goes among nodes in order
  pub ins_first : (v : Node V) (lo hi : ℕ) (xs : List (Node V)) → v.place < lo → Ascends lo hi xs → ins v xs ≡ v ∷ xs
  ins_first v lo hi [] l h = refl
  ins_first v lo hi (x ∷ xs) l h = let y = h.0 in grind (arith, nat_tests)

  pub ins_left : (v : Node V) (xs ys : List (Node V)) (lo hi : ℕ) → v.place < lo → Ascends lo hi ys → ins v (xs ++ ys) ≡ ins v xs ++ ys
  ins_left v [] ys lo hi l h = ins_first v lo hi ys l h
  ins_left v (x ∷ xs) ys lo hi l h = let rest = ins_left v xs ys lo hi l h in grind (arith, nat_tests)

  pub ins_right : (v : Node V) (xs ys : List (Node V)) (lo hi : ℕ) → hi ≤ v.place → Ascends lo hi xs → ins v (xs ++ ys) ≡ xs ++ ins v ys
  ins_right v [] ys lo hi l h = refl
  ins_right v (x ∷ xs) ys lo hi l h = let y = asc_ends (x.place + 1) hi xs h.1 in let rest = ins_right v xs ys (x.place + 1) hi l h.1 in grind (arith, nat_tests)

  -- a place that no node has
  pub absent_low : (p lo hi : ℕ) (xs : List (Node V)) → p < lo → Ascends lo hi xs → Absent p xs
  absent_low p lo hi [] l h = tt
  absent_low p lo hi (x ∷ xs) l h = let y = h.0 in ((λ e. omega arith), absent_low p (x.place + 1) hi xs (omega arith) h.1)

  pub absent_left : (p : ℕ) (xs ys : List (Node V)) → Absent p (xs ++ ys) → Absent p xs
  absent_left p [] ys h = tt
  absent_left p (x ∷ xs) ys h = (h.0, absent_left p xs ys h.1)

  pub absent_right : (p : ℕ) (xs ys : List (Node V)) → Absent p (xs ++ ys) → Absent p ys
  absent_right p [] ys h = h
  absent_right p (x ∷ xs) ys h = absent_right p xs ys h.1

  -- a node pushed past the head, and one that is not behind it
  abbrev pub pushed : Node V → List (Node V) → List (Node V)
  pushed v [] = []
  pushed v (x ∷ xs) = x ∷ ins v xs

  abbrev pub AbsentBehind : ℕ → List (Node V) → Type 0
  AbsentBehind p [] = Unit {0}
  AbsentBehind p (x ∷ xs) = Absent p xs

  -- of a head and a node the lesser stays, and the other goes on
  record Ordered (x v : Node V) (rest : List (Node V)) (first second : Node V) : Type 0 where
    pub list : first ∷ ins second rest ≡ ins v (x ∷ rest)
    pub absent : Absent second.place rest
    pub before : first.place < second.place
    pub less : first.place ≤ x.place
    pub low : (a : ℕ) → a ≤ v.place → a ≤ x.place → a ≤ first.place
    pub end : (b : ℕ) → v.place < b → x.place < b → second.place < b

  ordered : (x v : Node V) (rest : List (Node V)) (hi : ℕ) → Ascends (x.place + 1) hi rest → Absent v.place (x ∷ rest) → (c : Bool) → ltb v.place x.place ≡ c → Ordered x v rest (cond c v x) (cond c x v)
  ordered x v rest hi up none true e =
      let l = ltb-true v.place x.place e in
      record {
        list = rw e (ap (λ t. v ∷ t) (ins_first x (x.place + 1) hi rest (omega arith) up));
        absent = absent_low x.place (x.place + 1) hi rest (omega arith) up;
        before = l;
        less = omega arith;
        low = λ a p q. p;
        end = λ b p q. q;
      }
  ordered x v rest hi up none false e =
      let l = ltb-false v.place x.place e in
      let other = none.0 in
      record { list = rw e refl; absent = none.1; before = omega arith; less = omega arith; low = λ a p q. q; end = λ b p q. p }

  -- what a tree is whose head is the lesser of the old one and another node
  pub record Settled (n : ℕ) (ts : List (Tip V)) (at a b : ℕ) (v : Node V) (t : Tip V) (first second : Node V) : Type 0 where
    pub now : slice_get (set ts at (tip first t.left t.right)) at ≡ Some (tip first t.left t.right)
    pub tree : Tree n (set ts at (tip first t.left t.right)) a b at
    pub list : pushed second (listed n (set ts at (tip first t.left t.right)) at) ≡ ins v (listed n ts at)
    pub absent : AbsentBehind second.place (listed n (set ts at (tip first t.left t.right)) at)
    pub before : first.place < second.place
    pub low : a ≤ first.place
    pub end : second.place < b

  pub settled : (n : ℕ) (ts : List (Tip V)) (at a b : ℕ) (v : Node V) (t : Tip V) (first second : Node V) → first ≡ lesser t.node v → second ≡ greater t.node v
      → slice_get ts at ≡ Some t → Tree n ts a b at → a ≤ v.place → v.place < b → Absent v.place (listed n ts at) → Settled n ts at a b v t first second
  settled zero ts at a b v t first second e f now tree low end none = cc
  settled (suc m) ts at a b v t first second e f now tree low end none =
      let z = tip first t.left t.right in
      let us = set ts at z in
      let p = t.node.place in
      let mid = b - width m in
      let root = rooted m ts at a b t now tree in
      let rest = listed m ts t.left ++ listed m ts t.right in
      let whole : listed (suc m) ts at ≡ t.node ∷ rest = ap (λ o. spread o (listed m ts)) now in
      let o : Ordered t.node v rest first second =
      subst (λ (x : Node V). Ordered t.node v rest x second) (sym e) (subst (λ (y : Node V). Ordered t.node v rest (lesser t.node v) y) (sym f)
      (ordered t.node v rest (max a b) (rest_asc m ts at a b t now tree) (subst (λ (x : List (Node V)). Absent v.place x) whole none) (ltb v.place p) refl)) in
      let less = o.less in
      let hi = root.1 in
      let same : slice_get us at ≡ Some z = nth_set_same ts at z (slice_get_within ts at t now) in
      let L = kept m ts us (p + 1) mid t.left root.2 (λ j i. nth_set_other ts at j z (below_it ts at t (p + 1) mid j now (omega arith) i)) in
      let R = kept m ts us (max (p + 1) mid) b t.right root.3 (λ j i. nth_set_other ts at j z (below_it ts at t (max (p + 1) mid) b j now (omega arith) i)) in
      let E : listed (suc m) us at ≡ first ∷ rest = ap (λ o. spread o (listed m us)) same ∙ (λ k. first ∷ (L.1 k ++ R.1 k)) in
      record {
        now = same;
        tree = subst (λ (o : Option (Tip V)). Rooted o (width m) a b (Tree m us)) (sym same)
            (o.low a low root.0, omega arith, tree_low m us (p + 1) mid (first.place + 1) t.left (omega arith) L.0, tree_low m us (max (p + 1) mid) b (max (first.place + 1) mid) t.right (omega arith) R.0);
        list = ap (pushed second) E ∙ o.list ∙ sym (ap (ins v) whole);
        absent = subst (λ (x : List (Node V)). AbsentBehind second.place x) (sym E) o.absent;
        before = o.before;
        low = o.low a low root.0;
        end = o.end b end root.1;
      }

  -- a free node, past a range, is in the row, and is none of those in the range
  pub above_lt : (ts : List (Tip V)) (b i : ℕ) → Above b (slice_get ts i) → i < length ts
  above_lt [] b i h = absurd h
  above_lt (t ∷ ts) b zero h = omega arith
  above_lt (t ∷ ts) b (suc i) h = let l = above_lt ts b i h in omega arith

  above_less : (b c : ℕ) (o : Option (Tip V)) → c ≤ b → Above b o → Above c o
  above_less b c None l h = h
  above_less b c (Some t) l h = omega arith

  past_in : (o : Option (Tip V)) (a b : ℕ) → Above b o → Within a b o → ⊥
  past_in None a b h w = h
  past_in (Some t) a b h w = let x = w.1 in omega arith

  not_free : (ts : List (Tip V)) (free a b j : ℕ) → Above b (slice_get ts free) → Within a b (slice_get ts j) → j ≡ free → ⊥
  not_free ts free a b j h w q = past_in (slice_get ts free) a b h (subst (λ (i : ℕ). Within a b (slice_get ts i)) q w)

  -- where there is no node, the free one takes the place
  pub leaf : (n : ℕ) (ts : List (Tip V)) (at a b free : ℕ) (v : Node V) → a ≤ v.place → v.place < b → b ≤ a + width n → slice_get ts at ≡ None → Above b (slice_get ts free)
      → Changed (λ j. j ≡ free → ⊥) n ts (set ts free (tip v at at)) free a b (ins v (listed n ts at))
  leaf zero ts at a b free v lo hi fit void h = absurd (omega arith)
  leaf (suc m) ts at a b free v lo hi fit void h =
      let us = set ts free (tip v at at) in
      let same : slice_get us free ≡ Some (tip v at at) = nth_set_same ts free (tip v at at) (above_lt ts b free h) in
      let none : slice_get us at ≡ None = nth_set_other ts free at (tip v at at) (λ q. not_free ts free a b at h (subst (λ (o : Option (Tip V)). Within a b o) (sym void) tt) q) ∙ void in
      let empty = listed_none m us at none in
      record {
        list = ap (λ o. spread o (listed m us)) same ∙ (λ i. v ∷ (empty i ++ empty i)) ∙ sym (ap (λ o. ins v (spread o (listed m ts))) void);
        tree = subst (λ (o : Option (Tip V)). Rooted o (width m) a b (Tree m us)) (sym same) (lo, hi, tree_none m us (v.place + 1) (b - width m) at none, tree_none m us (max (v.place + 1) (b - width m)) b at none);
        frame = λ j f p. nth_set_other ts free j _ f;
      }

  -- a node that goes to a side
  ins_side : (s : Side) (m : ℕ) (ts : List (Tip V)) (at a b : ℕ) (t : Tip V) (d : Node V) → slice_get ts at ≡ Some t → Tree (suc m) ts a b at → t.node.place < d.place → OnSide s d.place (b - width m)
      → t.node ∷ joined s (ins d (listed m ts (child s t))) (listed m ts (child (opposite s) t)) ≡ pushed d (listed (suc m) ts at)
  ins_side Left m ts at a b t d now tree l o =
      ap (λ x. t.node ∷ x) (sym (ins_left d (listed m ts t.left) (listed m ts t.right) (max (t.node.place + 1) (b - width m)) _ (omega arith) (other_asc Left m ts at a b t now tree)))
      ∙ sym (ap (pushed d) (open_at Left m ts at t now))
  ins_side Right m ts at a b t d now tree l o =
      ap (λ x. t.node ∷ x) (sym (ins_right d (listed m ts t.left) (listed m ts t.right) (t.node.place + 1) _ (omega arith) (other_asc Right m ts at a b t now tree)))
      ∙ sym (ap (pushed d) (open_at Right m ts at t now))

  absent_side : (s : Side) (p : ℕ) (x : Node V) (xs ys : List (Node V)) → AbsentBehind p (x ∷ joined s xs ys) → Absent p xs
  absent_side Left p x xs ys h = absent_left p xs ys h
  absent_side Right p x xs ys h = absent_right p ys xs h

  -- what a node that goes to a half asks there
  pub record Asks (h : Part) (ss : List (Tip V)) (i free : ℕ) (d : Node V) : Type 0 where
    pub tree : TreeOf h ss i
    pub place : InPart h d.place
    pub absent : Absent d.place (listed h.level ss i)
    pub spare : Above h.end (slice_get ss free)

  module _ (s : Side) (q h : Part) (ts : List (Tip V)) (at free i : ℕ) (v : Node V) (t : Tip V) (first second : Node V) (half : IsHalf s first.place q h)
      (lesser_is : first ≡ lesser t.node v) (greater_is : second ≡ greater t.node v) (now : slice_get ts at ≡ Some t) (tree : TreeOf q ts at)
      (low : q.low ≤ v.place) (end : v.place < q.end) (none : Absent v.place (listed q.level ts at)) (fresh : Above q.end (slice_get ts free))
      (is : i ≡ child s (tip first t.left t.right)) (side : OnSide s second.place (q.end - width (q.level - 1))) where
    abbrev head : Tip V
    head = tip first t.left t.right

    abbrev ss : List (Tip V)
    ss = set ts at head

    st : Settled q.level ts at q.low q.end v t first second
    st = settled q.level ts at q.low q.end v t first second lesser_is greater_is now tree low end none

    in_part : Within q.low q.end (Some t)
    in_part = stands q ts at t now tree

    free_kept : slice_get ss free ≡ slice_get ts free
    free_kept = nth_set_other ts at free head (λ e. not_free ts free q.low q.end at fresh (subst (λ (o : Option (Tip V)). Within q.low q.end o) (sym now) in_part) (sym e))

    still_free : Above q.end (slice_get ss free)
    still_free = subst (λ (o : Option (Tip V)). Above q.end o) (sym free_kept) fresh

    pub asks : Asks h ss i free second
    asks =
        let gone = at_half (λ n c d. AbsentBehind second.place (listed n ss at) → Absent second.place (listed h.level ss (child s head))) s first.place q h half
        (λ a. absent_side s second.place first _ _ (subst (λ (x : List (Node V)). AbsentBehind second.place x) (open_at s h.level ss at head st.now) a)) st.absent in
        record {
          tree = subst (λ (k : ℕ). TreeOf h ss k) (sym is) (half_tree s q h ss at head half st.now st.tree);
          place = half_holds s first.place second.place q h half st.before st.end side;
          absent = subst (λ (k : ℕ). Absent second.place (listed h.level ss k)) (sym is) gone;
          spare = above_less q.end h.end (slice_get ss free) (half_within s first.place q h half) still_free;
        }

    -- the whole tree, once the node is in the half
    pub grown : (us : List (Tip V)) (r : ℕ) → at < length us → listed h.level us r ≡ ins second (listed h.level ss i) → TreeOf h us r
        → ((j : ℕ) → (j ≡ free → ⊥) → Apart h.low h.end (slice_get ss j) → slice_get us j ≡ slice_get ss j)
        → Changed (λ j. j ≡ free → ⊥) q.level ts (set us at (with_child s r head)) at q.low q.end (ins v (listed q.level ts at))
    grown us r long list new frame =
        let want = ins second (listed h.level ss (child s head)) in
        let d = relinked (λ j. j ≡ free → ⊥) s q h ss us at r head want half st.now st.tree long (λ j w. not_free ss free q.low q.end j still_free w)
        (record { list = list ∙ ap (λ k. ins second (listed h.level ss k)) is; tree = new; frame = frame }) in
        let pushes = at_half (λ n c e. Tree n ss q.low q.end at → first ∷ joined s want (listed h.level ss (child (opposite s) head)) ≡ pushed second (listed n ss at)) s first.place q h half
        (λ tr. ins_side s h.level ss at q.low q.end head second st.now tr st.before (on_half s s first.place second.place q h half side)) st.tree in
        record {
          list = d.list ∙ pushes ∙ st.list;
          tree = d.tree;
          frame = λ j other ap.
              let e = nth_set_other ts at j head (not_at ts at q.low q.end j t now in_part.0 in_part.1 ap) in
              d.frame j other (subst (λ (o : Option (Tip V)). Apart q.low q.end o) (sym e) ap) ∙ e;
        }
