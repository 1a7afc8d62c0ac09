-- Chains of nodes, and what a write does to them.
use Rattle.std.proofs.Common.{inl, inr, ◌≡◌, ℕ, zero, suc, ◌+◌, ◌-◌, ◌<◌, ◌≤◌, ◌≢◌, ◌⊎◌, List, ◌∷◌, length, get_or, drop, set, sym, refl, ap, ◌∙◌, subst, ⊎_elim, add-one, arith, length-set}
use Rattle.std.proofs.lemmas.List.{get_or-set_same, get_or-set_other, get_or_default, drop_more}
use Rattle.std.proofs.lemmas.Bool.{cases_eq, cases_lt}
use Rattle.std.proofs.lemmas.Grind.{common_steps}
use Rattle.token_pool.specs.declared.node.Node.{Node}
use Rattle.token_pool.specs.declared.chain.FreeNodes.{FreeNodes}
use Rattle.token_pool.specs.Nodes.{top_nodes, none, at, freed, Frees, Chain, tokens_from, size, total, Moved}

-- a node that a write leaves
pub at_other : (ns : List Node) (i j : ℕ) (v : Node) → j ≢ i → at (set ns i v) j ≡ at ns j
at_other ns i j v ne = get_or-set_other ns i j v (none j) ne

pub at_same : (ns : List Node) (i : ℕ) (v : Node) → i < length ns → at (set ns i v) i ≡ v
at_same ns i v h = get_or-set_same ns i v (none i) h

-- a head is below the length
pub head_in : (ns : List Node) (b : ℕ) → (at ns b).owner ≡ b → b < length ns
head_in ns b e = grind (arith, common_steps)

-- a chain and its tokens are kept where the nodes of its owner that it can reach are
pub chain_kept : (ns ms : List Node) (o i k : ℕ) → length ms ≡ length ns
    → ((j : ℕ) → (at ns j).owner ≡ o → (at ns j).left < k → at ms j ≡ at ns j)
    → Chain ns o i k → Chain ms o i k
chain_kept ns ms o i zero e f h = tt
chain_kept ns ms o i (suc k) e f h =
    let q : at ms i ≡ at ns i = f i h.1 (omega (arith, h.2)) in
    (omega (arith, h.0), cc, cc, rw q (chain_kept ns ms o (at ns i).next k e (λ j p l. f j p (omega arith)) h.3))

pub tokens_kept : (ns ms : List Node) (o i k : ℕ)
    → ((j : ℕ) → (at ns j).owner ≡ o → (at ns j).left < k → at ms j ≡ at ns j)
    → Chain ns o i k → tokens_from ms i k ≡ tokens_from ns i k
tokens_kept ns ms o i zero f h = refl
tokens_kept ns ms o i (suc k) f h =
    let q : at ms i ≡ at ns i = f i h.1 (omega (arith, h.2)) in
    let r : tokens_from ms (at ns i).next k ≡ tokens_from ns (at ns i).next k = tokens_kept ns ms o (at ns i).next k (λ j p l. f j p (omega arith)) h.3 in
    cc

-- one write, outside of a chain
set_keeps : (ns : List Node) (o k j : ℕ) (v : Node) → ((at ns j).owner ≡ o → k ≤ (at ns j).left)
    → (l : ℕ) → (at ns l).owner ≡ o → (at ns l).left < k → at (set ns j v) l ≡ at ns l
set_keeps ns o k j v f l p q = at_other ns j l v (λ e. let z = f (rw e at p) in let y = rw e at q in omega arith)

pub chain_set : (ns : List Node) (o i k j : ℕ) (v : Node) → ((at ns j).owner ≡ o → k ≤ (at ns j).left)
    → Chain ns o i k → Chain (set ns j v) o i k
chain_set ns o i k j v f = chain_kept ns (set ns j v) o i k (length-set ns j v) (set_keeps ns o k j v f)

pub tokens_set : (ns : List Node) (o i k j : ℕ) (v : Node) → ((at ns j).owner ≡ o → k ≤ (at ns j).left)
    → Chain ns o i k → tokens_from (set ns j v) i k ≡ tokens_from ns i k
tokens_set ns o i k j v f = tokens_kept ns (set ns j v) o i k (set_keeps ns o k j v f)

-- sums of sizes
pub total_same : (ns ms : List Node) (m : ℕ) → ((b : ℕ) → b < m → size ms b ≡ size ns b) → total ms m ≡ total ns m
total_same ns ms zero f = refl
total_same ns ms (suc m) f =
    let r : total ms m ≡ total ns m = total_same ns ms m (λ b l. f b (omega arith)) in
    let s : size ms m ≡ size ns m = f m (omega arith) in
    cc

pub total_one : (ns ms : List Node) (m b : ℕ) → b < m → ((c : ℕ) → c ≢ b → size ms c ≡ size ns c)
    → total ms m + size ns b ≡ total ns m + size ms b
total_one ns ms zero b l f = absurd (omega arith)
total_one ns ms (suc m) b l f =
    ⊎_elim (λ e. let r : total ms m ≡ total ns m = total_same ns ms m (λ c q. f c (λ z. omega arith)) in
    let s : size ms m ≡ size ms b = ap (size ms) (sym e) in
    let t : size ns m ≡ size ns b = ap (size ns) (sym e) in omega arith)
    (λ n. let r : total ms m + size ns b ≡ total ns m + size ms b = total_one ns ms m b (omega (arith, n)) f in
    let s : size ms m ≡ size ns m = f m (λ z. n (sym z)) in omega arith)
    (cases_eq b m)

pub size_le : (ns : List Node) (m b : ℕ) → b < m → size ns b ≤ total ns m
size_le ns zero b l = absurd (omega arith)
size_le ns (suc m) b l =
    ⊎_elim (λ e. let t : size ns m ≡ size ns b = ap (size ns) (sym e) in omega arith)
    (λ n. let r : size ns b ≤ total ns m = size_le ns m b (⊎_elim (λ q. q) (λ q. absurd (n (omega arith))) (cases_lt b m)) in omega arith)
    (cases_eq b m)

-- the nodes of a cleared memory
abbrev pub fresh : ℕ → Node
fresh j = record { owner = top_nodes; left = j; next = j - 1; token = 0; count = 0 }

pub fresh_chain : (ns : List Node) (k : ℕ) → k ≤ length ns → ((j : ℕ) → j < k → at ns j ≡ fresh j) → Chain ns top_nodes (k - 1) k
fresh_chain ns zero l f = tt
fresh_chain ns (suc k) l f =
    let e : suc k - 1 ≡ k = omega arith in
    let q : at ns k ≡ fresh k = f k (omega arith) in
    rw (e, q) (omega arith, refl, refl, fresh_chain ns k (omega arith) (λ j h. f j (omega arith)))

-- the first node of a chain
pub chain_step : (ns : List Node) (o i m : ℕ) → 0 < m → Chain ns o i m
    → (i < length ns) × ((at ns i).owner ≡ o) × ((at ns i).left ≡ m - 1) × Chain ns o (at ns i).next (m - 1)
chain_step ns o i zero l h = absurd (omega arith)
chain_step ns o i (suc k) l h =
    let e : k ≡ suc k - 1 = omega arith in
    (h.0, h.1, h.2 ∙ e, subst (λ (x : ℕ). Chain ns o (at ns i).next x) e h.3)

-- that node is written, and the chain goes on without it
pub pop_chain : (ns : List Node) (o i m : ℕ) (v : Node) → 0 < m → Chain ns o i m → Chain (set ns i v) o (at ns i).next (m - 1)
pop_chain ns o i m v l h =
    let s = chain_step ns o i m l h in
    chain_set ns o (at ns i).next (m - 1) i v (λ e. omega (arith, s.2)) s.3

-- a node of another owner is written as the first of a chain
pub push_chain : (ns : List Node) (o i k x : ℕ) (v : Node) → x < length ns → v.owner ≡ o → v.left ≡ k → v.next ≡ i
    → (at ns x).owner ≢ o → Chain ns o i k → Chain (set ns x v) o x (k + 1)
push_chain ns o i k x v l eo el en ne h =
    let q : at (set ns x v) x ≡ v = at_same ns x v l in
    rw (add-one k) (simp length-set l, cc, cc, rw (q, en) (chain_set ns o i k x v (λ e. absurd (ne e)) h))

pub push_tokens : (ns : List Node) (o i k x : ℕ) (v : Node) → x < length ns → v.next ≡ i
    → (at ns x).owner ≢ o → Chain ns o i k → tokens_from (set ns x v) x (k + 1) ≡ v.token ∷ tokens_from ns i k
push_tokens ns o i k x v l en ne h =
    let q : at (set ns x v) x ≡ v = at_same ns x v l in
    let r : tokens_from (set ns x v) i k ≡ tokens_from ns i k = tokens_set ns o i k x v (λ e. absurd (ne e)) h in
    rw (add-one k) (cc)

pub moved_none : (ns : List Node) (o p : ℕ) → Moved ns ns o p
moved_none ns o p j = inl refl

pub moved_more : (ns ms : List Node) (o p i : ℕ) (v : Node) → i < length ms → (at ms i).owner ≡ o → v.owner ≡ p
    → Moved ns ms o p → Moved ns (set ms i v) o p
moved_more ns ms o p i v l eo ep f j = grind (arith, common_steps)

pub moved_trans : (ns ms ls : List Node) (o p : ℕ) → Moved ns ms o p → Moved ms ls o p → Moved ns ls o p
moved_trans ns ms ls o p f g j =
    ⊎_elim (λ e. ⊎_elim (λ d. inl (d ∙ e)) (λ d. inr (ap (λ (n : Node). n.owner) (sym e) ∙ d.0, d.1)) (g j))
    (λ e. ⊎_elim (λ d. inr (e.0, ap (λ (n : Node). n.owner) d ∙ e.1)) (λ d. inr (e.0, d.1)) (g j))
    (f j)

-- what a move from o to p leaves of another list
pub moved_at : (ns ms : List Node) (o p c : ℕ) → Moved ns ms o p → c ≢ o → (j : ℕ) → (at ns j).owner ≡ c → at ms j ≡ at ns j
moved_at ns ms o p c f ne j e = grind (arith, common_steps)

-- the default that code reads at
abbrev pub blank : Node
blank = record { owner = 0; left = 0; next = 0; token = 0; count = 0 }

pub read : (ns : List Node) (i : ℕ) → i < length ns → get_or ns i blank ≡ at ns i
read ns i l = get_or_default ns i blank (none i) l

-- a token more in a chain that is filled from its end: x goes into the first free node
pub fill_step : (os ns : List Node) (ts : List ℕ) (o r m f k x : ℕ) → o < top_nodes → 0 < m → k < length ts → x ≡ get_or ts (length ts - 1 - k) x
    → Chain ns top_nodes r m → Chain ns o f k
    → tokens_from ns f k ≡ drop (length ts - k) ts → Moved os ns top_nodes o
    → let v : Node = record { owner = o; left = k; next = f; token = x; count = 0 } in
    Chain (set ns r v) top_nodes (at ns r).next (m - 1)
    × Chain (set ns r v) o r (k + 1)
    × (tokens_from (set ns r v) r (k + 1) ≡ drop (length ts - (k + 1)) ts)
    × Moved os (set ns r v) top_nodes o
fill_step os ns ts o r m f k x lo lm lk e hf hc hi hm =
    let v : Node = record { owner = o; left = k; next = f; token = x; count = 0 } in
    let s = chain_step ns top_nodes r m lm hf in
    let ne : (at ns r).owner ≢ o = λ z. omega (arith, s.1, z) in
    let d : drop (length ts - 1 - k) ts ≡ get_or ts (length ts - 1 - k) x ∷ drop ((length ts - 1 - k) + 1) ts = drop_more ts (length ts - 1 - k) x (omega arith) in
    let a : (length ts - 1 - k) + 1 ≡ length ts - k = omega arith in
    let b : length ts - (k + 1) ≡ length ts - 1 - k = omega arith in
    let t : tokens_from (set ns r v) r (k + 1) ≡ x ∷ tokens_from ns f k = push_tokens ns o f k r v s.0 refl ne hc in (
      pop_chain ns top_nodes r m v lm hf,
      push_chain ns o f k r v s.0 refl refl refl ne hc,
      cc,
      moved_more os ns top_nodes o r v s.0 s.1 refl hm,
    )

-- a node more that goes from the chain of o to the free ones
pub release_step : (os ns : List Node) (o i first count k : ℕ) (free : FreeNodes) → o < top_nodes → k < count
    → Frees ns free → Chain ns o i (count - k) → Moved os ns o top_nodes
    → (((k ≡ 0) × (i ≡ first)) ⊎ ((at ns first).owner ≡ top_nodes))
    → let ms : List Node = set ns i (freed free) in
    Chain ms top_nodes i (free.count + 1)
    × Chain ms o (get_or ns i blank).next (count - (k + 1))
    × Moved os ms o top_nodes
    × ((at ms first).owner ≡ top_nodes)
release_step os ns o i first count k free lo lk hf hc hm hg =
    let v = freed free in
    let p : 0 < count - k = omega arith in
    let s = chain_step ns o i (count - k) p hc in
    let ne : (at ns i).owner ≢ top_nodes = λ e. omega (arith, s.1, e) in
    let t : count - k - 1 ≡ count - (k + 1) = omega arith in
    let here : (at (set ns i v) i).owner ≡ top_nodes = ap (λ (n : Node). n.owner) (at_same ns i v s.0) in (
      push_chain ns top_nodes free.first free.count i v s.0 refl refl refl ne hf,
      rw (read ns i s.0, ← t) (pop_chain ns o i (count - k) v p hc),
      moved_more os ns o top_nodes i v s.0 s.1 refl hm,
      ⊎_elim (λ e. subst (λ (x : ℕ). (at (set ns i v) x).owner ≡ top_nodes) (sym e) here)
          (λ n. ap (λ (n : Node). n.owner) (at_other ns i first v n)
          ∙ ⊎_elim (λ g. absurd (n (sym g.1))) (λ g. g) hg)
          (cases_eq first i),
    )
