-- Tests and facts, and free nodes that stay.
use Rattle.std.proofs.Common.{◌≡◌, ℕ, zero, suc, ◌+◌, ◌-◌, ◌<◌, ◌≤◌, Bool, true, List, [], ◌∷◌, length, get_or, set, Some, None, Option, sym, refl, ap, ◌∙◌, subst, ⊎_elim, add-one, arith, below_more, ltb-true, lt-ltb, eq-eqb, eqb-true, le-leb, leb-true}
use Rattle.std.proofs.lemmas.Bool.Decides.{nat_tests}
use Rattle.std.proofs.lemmas.Bool.{and_parts, and_from, false≢true}
use Rattle.std.specs.List.{slice_get}
use Rattle.std.proofs.lemmas.Option.{slice_get_past, slice_get_cases, slice_get_read}
use Rattle.stores.specs.declared.cell.Cell.{Cell}
use Rattle.sparse.specs.declared.node.Node.{Node}
use Rattle.sparse.specs.Trees.{width, Rooted, Tree, Within, Apart, Above, listed}
use Rattle.sparse.specs.Listing.{ins, del, over, found}
use Rattle.tokens.specs.Limits.{top_reach}
use Rattle.sparse.specs.Chain.{top_nodes, Linked, Chain, linked, chained, no_tip, rootedb, treed}
use Rattle.sparse.specs.declared.node.Tip.{Tip}
use Rattle.sparse.specs.declared.nodes.Nodes.{Nodes}
use Rattle.sparse.specs.declared.part.Part.{Part}
use Rattle.sparse.specs.Parts.{IsWhole, TreeOf, KeptApart}
use Rattle.sparse.proofs.Halves.{at_whole, from_whole}
use Rattle.sparse.proofs.Frames.{Agree, listed_none, tree_none, nth_set_same, nth_set_other}

-- the index before another, as the last of a chain has it
abbrev pub prev : ℕ → ℕ
prev zero = 4294967295
prev (suc n) = n

module _ {V : Type 0} where
  -- a tree as a test, both ways
  none_from : (o : Option (Tip V)) → no_tip o ≡ true → o ≡ None
  none_from None e = refl
  none_from (Some t) e = cc

  root_from : (o : Option (Tip V)) (w a b : ℕ) (f : ℕ → ℕ → ℕ → Bool) (F : ℕ → ℕ → ℕ → Type 0) → ((x y i : ℕ) → f x y i ≡ true → F x y i) → rootedb o w a b f ≡ true → Rooted o w a b F
  root_from None w a b f F g e = tt
  root_from (Some t) w a b f F g e =
      let h = and_parts _ _ e in let i = and_parts _ _ h.1 in let j = and_parts _ _ i.1 in
      (leb-true _ _ h.0, ltb-true _ _ i.0, g _ _ _ j.0, g _ _ _ j.1)

  root_to : (o : Option (Tip V)) (w a b : ℕ) (f : ℕ → ℕ → ℕ → Bool) (F : ℕ → ℕ → ℕ → Type 0) → ((x y i : ℕ) → F x y i → f x y i ≡ true) → Rooted o w a b F → rootedb o w a b f ≡ true
  root_to None w a b f F g h = refl
  root_to (Some t) w a b f F g h = and_from _ _ (le-leb _ _ h.0) (and_from _ _ (lt-ltb _ _ h.1) (and_from _ _ (g _ _ _ h.2) (g _ _ _ h.3)))

  pub tree_from : (n : ℕ) (ts : List (Tip V)) (a b i : ℕ) → treed n ts a b i ≡ true → Tree n ts a b i
  unfolding treed
  tree_from zero ts a b i e = none_from (slice_get ts i) e
  tree_from (suc n) ts a b i e = root_from (slice_get ts i) (width n) a b (treed n ts) (Tree n ts) (λ x y i h. tree_from n ts x y i h) e

  pub tree_to : (n : ℕ) (ts : List (Tip V)) (a b i : ℕ) → Tree n ts a b i → treed n ts a b i ≡ true
  unfolding treed
  tree_to zero ts a b i h = ap no_tip h
  tree_to (suc n) ts a b i h = root_to (slice_get ts i) (width n) a b (treed n ts) (Tree n ts) (λ x y i h. tree_to n ts x y i h) h

  -- a chain as a test, both ways
  link_from : (o : Option (Tip V)) (s : ℕ) (f : ℕ → Bool) (F : ℕ → Type 0) → ((k : ℕ) → f k ≡ true → F k) → linked o s f ≡ true → Linked o s F
  link_from None s f F g e = false≢true e
  link_from (Some t) s f F g e = let h = and_parts _ _ e in (eqb-true _ _ h.0, g _ h.1)

  link_to : (o : Option (Tip V)) (s : ℕ) (f : ℕ → Bool) (F : ℕ → Type 0) → ((k : ℕ) → F k → f k ≡ true) → Linked o s F → linked o s f ≡ true
  link_to None s f F g h = absurd h
  link_to (Some t) s f F g h = and_from _ _ (eq-eqb _ _ h.0) (g _ h.1)

  pub chain_from : (s : ℕ) (ts : List (Tip V)) (k : ℕ) → chained s ts k ≡ true → Chain s ts k
  unfolding chained
  chain_from zero ts k e = tt
  chain_from (suc s) ts k e = link_from (slice_get ts k) s (chained s ts) (Chain s ts) (λ k h. chain_from s ts k h) e

  pub chain_to : (s : ℕ) (ts : List (Tip V)) (k : ℕ) → Chain s ts k → chained s ts k ≡ true
  unfolding chained
  chain_to zero ts k h = refl
  chain_to (suc s) ts k h = link_to (slice_get ts k) s (chained s ts) (Chain s ts) (λ k h. chain_to s ts k h) h

  -- a chain whose nodes stand as they stood is the chain that it was
  link_in : (o : Option (Tip V)) (s : ℕ) (F : ℕ → Type 0) → Linked o s F → Within top_reach (top_reach + suc s) o
  link_in None s F h = tt
  link_in (Some t) s F h = let x = h.0 in (omega arith, omega arith)

  less_in : (o : Option (Tip V)) (a b c : ℕ) → b ≤ c → Within a b o → Within a c o
  less_in None a b c l h = tt
  less_in (Some t) a b c l h = let x = h.1 in (h.0, omega arith)

  link_map : (o : Option (Tip V)) (s : ℕ) (F G : ℕ → Type 0) → ((k : ℕ) → F k → G k) → Linked o s F → Linked o s G
  link_map None s F G g h = h
  link_map (Some t) s F G g h = (h.0, g _ h.1)

  pub chain_kept : (s : ℕ) (ts us : List (Tip V)) (k : ℕ) → Chain s ts k → Agree ts us top_reach (top_reach + s) → Chain s us k
  chain_kept zero ts us k h f = tt
  chain_kept (suc s) ts us k h f =
      subst (λ (o : Option (Tip V)). Linked o s (Chain s us)) (sym (f k (link_in (slice_get ts k) s (Chain s ts) h)))
      (link_map (slice_get ts k) s (Chain s ts) (Chain s us) (λ k h. chain_kept s ts us k h (λ j w. f j (less_in (slice_get ts j) top_reach (top_reach + s) (top_reach + suc s) (omega arith) w))) h)

  out : (o : Option (Tip V)) (s b : ℕ) → b ≤ top_reach → Within top_reach s o → Apart 0 b o
  out None s b l w = tt
  out (Some t) s b l w = λ x y. let z = w.0 in omega arith

  -- a node comes free: it heads the chain
  pub chain_more : (s : ℕ) (ts us : List (Tip V)) (k fr b : ℕ) (sp : Tip V) → b ≤ top_reach → Chain s ts k → slice_get us fr ≡ Some sp → sp.node.place ≡ top_reach + s → sp.left ≡ k
      → ((j : ℕ) → Apart 0 b (slice_get ts j) → slice_get us j ≡ slice_get ts j) → Chain (suc s) us fr
  chain_more s ts us k fr b sp l h e p q f =
      subst (λ (o : Option (Tip V)). Linked o s (Chain s us)) (sym e)
      (p, subst (λ (i : ℕ). Chain s us i) (sym q) (chain_kept s ts us k h (λ j w. f j (out (slice_get ts j) (top_reach + s) b l w))))

  at_top : (o : Option (Tip V)) (t : Tip V) (s : ℕ) → o ≡ Some t → t.node.place ≡ top_reach + s → Within top_reach (top_reach + s) o → ⊥
  at_top o t s e p w = let x = subst (λ (o : Option (Tip V)). Within top_reach (top_reach + s) o) e w in let y = x.1 in omega arith

  -- the head of the chain is taken
  pub chain_less : (s : ℕ) (ts us : List (Tip V)) (k b : ℕ) (t : Tip V) → b ≤ top_reach → slice_get ts k ≡ Some t → Chain (suc s) ts k
      → ((j : ℕ) → (j ≡ k → ⊥) → Apart 0 b (slice_get ts j) → slice_get us j ≡ slice_get ts j) → Chain s us t.left
  chain_less s ts us k b t l e h f =
      let g = subst (λ (o : Option (Tip V)). Linked o s (Chain s ts)) e h in
      chain_kept s ts us t.left g.1 (λ j w. f j (λ q. at_top (slice_get ts j) t s (ap (slice_get ts) q ∙ e) g.0 w) (out (slice_get ts j) (top_reach + s) b l w))

  -- the head of a chain is past every place
  pub head_place : (s : ℕ) (ts : List (Tip V)) (k : ℕ) (t : Tip V) → slice_get ts k ≡ Some t → Chain (suc s) ts k → t.node.place ≡ top_reach + s
  head_place s ts k t e h = (subst (λ (o : Option (Tip V)). Linked o s (Chain s ts)) e h).0

  -- how many nodes there are after a change
  pub length_ins : (v : Node V) (xs : List (Node V)) → length (ins v xs) ≡ suc (length xs)
  length_ins v [] = refl
  length_ins v (x ∷ xs) = let rest = length_ins v xs in grind (arith, nat_tests)

  pub length_del : (p : ℕ) (xs : List (Node V)) (c : Cell V) → found p xs ≡ Some c → suc (length (del p xs)) ≡ length xs
  length_del p [] c h = cc
  length_del p (x ∷ xs) c h = let rest : found p xs ≡ Some c → suc (length (del p xs)) ≡ length xs = length_del p xs c in grind (arith, nat_tests)

  pub length_over : (p : ℕ) (c : Cell V) (xs : List (Node V)) → length (over p c xs) ≡ length xs
  length_over p c [] = refl
  length_over p c (x ∷ xs) = let rest = length_over p c xs in grind (arith, nat_tests)

  -- a chain with a node has a head
  pub chain_some : (s : ℕ) (ts : List (Tip V)) (k : ℕ) → 0 < s → Chain s ts k → slice_get ts k ≡ None → ⊥
  chain_some zero ts k l h e = omega arith
  chain_some (suc s) ts k l h e = subst (λ (o : Option (Tip V)). Linked o s (Chain s ts)) e h

  pub head_lt : (s : ℕ) (ts : List (Tip V)) (k : ℕ) → 0 < s → chained s ts k ≡ true → k < length ts
  head_lt s ts k l h = ⊎_elim (λ z. z.1) (λ z. absurd (chain_some s ts k l (chain_from s ts k h) z.1)) (slice_get_cases ts k).1

  pub head_is : (s : ℕ) (ts : List (Tip V)) (k : ℕ) (t : Tip V) → 0 < s → chained s ts k ≡ true → t ≡ get_or ts k t → slice_get ts k ≡ Some t
  head_is s ts k t l h e = slice_get_read ts (length ts) k t refl (head_lt s ts k l h) e

  -- a node less and a node more in the tree, with the chain
  pub took : (n : ℕ) (ts ws : List (Tip V)) (root root2 fr free loose b p : ℕ) (c : Cell V) (sp : Tip V) → b ≤ top_reach → chained loose ts free ≡ true
      → found p (listed n ts root) ≡ Some c → loose + length (listed n ts root) ≤ top_nodes → listed n ws root2 ≡ del p (listed n ts root)
      → slice_get ws fr ≡ Some sp → sp.node.place ≡ top_reach + loose → sp.left ≡ free → ((j : ℕ) → Apart 0 b (slice_get ts j) → slice_get ws j ≡ slice_get ts j)
      → (loose + 1 + length (listed n ws root2) ≤ top_nodes) × (chained (loose + 1) ws fr ≡ true)
  took n ts ws root root2 fr free loose b p c sp l ch held few list spent q r f =
      let k = ap length list in
      let d = length_del p (listed n ts root) c held in
      (omega arith, rw add-one (chain_to (suc loose) ws fr (chain_more loose ts ws free fr b sp l (chain_from loose ts free ch) spent q r f)))

  pub gave : (n : ℕ) (ts ws : List (Tip V)) (root root2 free loose b : ℕ) (v : Node V) (t : Tip V) → b ≤ top_reach → 0 < loose → chained loose ts free ≡ true → slice_get ts free ≡ Some t
      → loose + length (listed n ts root) ≤ top_nodes → listed n ws root2 ≡ ins v (listed n ts root)
      → ((j : ℕ) → (j ≡ free → ⊥) → Apart 0 b (slice_get ts j) → slice_get ws j ≡ slice_get ts j)
      → (loose - 1 + length (listed n ws root2) ≤ top_nodes) × (chained (loose - 1) ws t.left ≡ true)
  gave n ts ws root root2 free loose b v t l pos ch e few list f =
      let k = ap length list in
      let d = length_ins v (listed n ts root) in
      let up : loose ≡ suc (loose - 1) = omega arith in
      let h = subst (λ (s : ℕ). Chain s ts free) up (chain_from loose ts free ch) in
      (omega arith, chain_to (loose - 1) ws t.left (chain_less (loose - 1) ts ws free b t l e h f))

  -- a free node is past every range
  pub fresh : (ts : List (Tip V)) (free loose b : ℕ) (t : Tip V) → b ≤ top_reach → 0 < loose → chained loose ts free ≡ true → slice_get ts free ≡ Some t → Above b (slice_get ts free)
  fresh ts free loose b t l pos ch e =
      let up : loose ≡ suc (loose - 1) = omega arith in
      let h = head_place (loose - 1) ts free t e (subst (λ (s : ℕ). Chain s ts free) up (chain_from loose ts free ch)) in
      subst (λ (o : Option (Tip V)). Above b o) (sym e) (omega arith)

  -- another cell in a node leaves the free ones
  pub stayed : (n : ℕ) (ts ws : List (Tip V)) (root free loose b p : ℕ) (c : Cell V) → b ≤ top_reach → chained loose ts free ≡ true
      → loose + length (listed n ts root) ≤ top_nodes → listed n ws root ≡ over p c (listed n ts root) → ((j : ℕ) → Apart 0 b (slice_get ts j) → slice_get ws j ≡ slice_get ts j)
      → (loose + length (listed n ws root) ≤ top_nodes) × (chained loose ws free ≡ true)
  stayed n ts ws root free loose b p c l ch few list f =
      let k = ap length list in
      let d = length_over p c (listed n ts root) in
      (omega arith, chain_to loose ws free (chain_kept loose ts ws free (chain_from loose ts free ch) (λ j w. f j (out (slice_get ts j) (top_reach + loose) b l w))))

  -- the first i nodes of a row are a chain from the last on
  abbrev pub Freed : List (Tip V) → ℕ → Type 0
  Freed ts i = (j : ℕ) → j < i → Linked (slice_get ts j) j (λ k. k ≡ prev j)

  chain_row : (s : ℕ) (ts : List (Tip V)) → Freed ts s → Chain s ts (prev s)
  chain_row zero ts h = tt
  chain_row (suc s) ts h =
      link_map (slice_get ts s) s (λ k. k ≡ prev s) (Chain s ts) (λ k e. subst (λ (i : ℕ). Chain s ts i) (sym e) (chain_row s ts (λ j l. h j (omega arith)))) (h s (omega arith))

  pub freed_all : (s n head : ℕ) (ts : List (Tip V)) → s ≡ n → head ≡ prev s → Freed ts s → chained n ts head ≡ true
  freed_all s n head ts e q h =
      subst (λ (k : ℕ). chained k ts head ≡ true) e (subst (λ (k : ℕ). chained s ts k ≡ true) (sym q) (chain_to s ts (prev s) (chain_row s ts h)))

  -- one more
  pub freed_more : (ts : List (Tip V)) (i head : ℕ) (t : Tip V) → i < length ts → head ≡ prev i → t.node.place ≡ top_reach + i → t.left ≡ head → Freed ts i → Freed (set ts i t) (i + 1)
  freed_more ts i head t l q p e h = below_more (λ j. Linked (slice_get (set ts i t) j) j (λ k. k ≡ prev j)) i
      (λ j lt. subst (λ (o : Option (Tip V)). Linked o j (λ k. k ≡ prev j)) (sym (nth_set_other ts i j t (λ y. omega arith))) (h j lt))
      (subst (λ (o : Option (Tip V)). Linked o i (λ k. k ≡ prev i)) (sym (nth_set_same ts i t l)) (p, e ∙ q))

  -- no tree at all
  pub bare : (n : ℕ) (ts : List (Tip V)) (b i : ℕ) → length ts ≤ i → (listed n ts i ≡ []) × (treed n ts 0 b i ≡ true)
  bare n ts b i l = let none = slice_get_past ts i l in (listed_none n ts i none, tree_to n ts 0 b i (tree_none n ts 0 b i none))

  -- the tree of a store's nodes
  pub nodes_tree : (s : Nodes V) (q : Part) → IsWhole s.reach q → TreeOf q s.tips.items s.root
  nodes_tree s q whole = at_whole (λ n a b. Tree n s.tips.items a b s.root) s.reach q whole (tree_from 18 s.tips.items 0 s.reach s.root s.tree)

  -- what nodes are that hold the wanted ones, and so many free ones
  pub record Sound (ts : List (Tip V)) (loose root free reach : ℕ) (want : List (Node V)) : Type 0 where
    pub few : loose + length (listed 18 ts root) ≤ top_nodes
    pub chain : chained loose ts free ≡ true
    pub tree : treed 18 ts 0 reach root ≡ true
    pub list : listed 18 ts root ≡ want

  -- a change of the tree in the part that has all places
  module _ (s : Nodes V) (q : Part) (whole : IsWhole s.reach q) (xs us zs : List (Tip V)) (was : xs ≡ s.tips.items) (is : zs ≡ us) where
    abbrev Rebased : (List (Node V) → List (Node V)) → (ℕ → Type 0) → ℕ → List (Tip V) → ℕ → ℕ → ℕ → Type 0
    Rebased f Still root ts n a b = (listed n us root ≡ f (listed n ts s.root)) × Tree n us a b root × ((j : ℕ) → Still j → Apart a b (slice_get ts j) → slice_get us j ≡ slice_get ts j)

    rebased : (f : List (Node V) → List (Node V)) (Still : ℕ → Type 0) (root : ℕ) → Rebased f Still root xs q.level q.low q.end → Rebased f Still root s.tips.items 18 0 s.reach
    rebased f Still root h = subst (λ (ts : List (Tip V)). Rebased f Still root ts 18 0 s.reach) was (from_whole (Rebased f Still root xs) s.reach q whole h)

    pub less_sound : (root free p : ℕ) (c : Cell V) (sp : Tip V) → found p (listed 18 s.tips.items s.root) ≡ Some c → sp.node.place ≡ top_reach + s.loose → sp.left ≡ s.free
        → listed q.level us root ≡ del p (listed q.level xs s.root) → TreeOf q us root → slice_get us free ≡ Some sp → KeptApart q xs us → Sound zs (s.loose + 1) root free s.reach (del p (listed 18 s.tips.items s.root))
    less_sound root free p c sp held place left list new spent frame =
        let h = rebased (del p) (λ j. Unit {0}) root (list, new, λ j _. frame j) in
        let k = took 18 s.tips.items us s.root root free s.free s.loose s.reach p c sp s.near s.chain held s.few h.0 spent place left (λ j. h.2 j tt) in
        subst (λ (ts : List (Tip V)). Sound ts (s.loose + 1) root free s.reach (del p (listed 18 s.tips.items s.root))) (sym is)
        (record { few = k.0; chain = k.1; tree = tree_to 18 us 0 s.reach root h.1; list = h.0 })

    pub more_sound : (root : ℕ) (v : Node V) (t : Tip V) → 0 < s.loose → slice_get s.tips.items s.free ≡ Some t
        → listed q.level us root ≡ ins v (listed q.level xs s.root) → TreeOf q us root → ((j : ℕ) → (j ≡ s.free → ⊥) → Apart q.low q.end (slice_get xs j) → slice_get us j ≡ slice_get xs j)
        → Sound zs (s.loose - 1) root t.left s.reach (ins v (listed 18 s.tips.items s.root))
    more_sound root v t pos e list new frame =
        let h = rebased (ins v) (λ j. j ≡ s.free → ⊥) root (list, new, frame) in
        let k = gave 18 s.tips.items us s.root root s.free s.loose s.reach v t s.near pos s.chain e s.few h.0 h.2 in
        subst (λ (ts : List (Tip V)). Sound ts (s.loose - 1) root t.left s.reach (ins v (listed 18 s.tips.items s.root))) (sym is)
        (record { few = k.0; chain = k.1; tree = tree_to 18 us 0 s.reach root h.1; list = h.0 })

    pub over_sound : (p : ℕ) (c : Cell V) → listed q.level us s.root ≡ over p c (listed q.level xs s.root) → TreeOf q us s.root → KeptApart q xs us
        → Sound zs s.loose s.root s.free s.reach (over p c (listed 18 s.tips.items s.root))
    over_sound p c list new frame =
        let h = rebased (over p c) (λ j. Unit {0}) s.root (list, new, λ j _. frame j) in
        let k = stayed 18 s.tips.items us s.root s.free s.loose s.reach p c s.near s.chain s.few h.0 (λ j. h.2 j tt) in
        subst (λ (ts : List (Tip V)). Sound ts s.loose s.root s.free s.reach (over p c (listed 18 s.tips.items s.root))) (sym is)
        (record { few = k.0; chain = k.1; tree = tree_to 18 us 0 s.reach s.root h.1; list = h.0 })
