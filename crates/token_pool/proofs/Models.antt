-- What the nodes mean as a pool, before and after a change.
use Rattle.std.proofs.Common.{◌≡◌, ℕ, zero, suc, ◌+◌, ◌-◌, ◌<◌, ◌≤◌, true, false, eqb, ◌≢◌, List, [], Option, Some, None, is_some, MatchOption, length, set, sym, refl, ap, ◌∙◌, subst, ⊎_elim, arith}
use mathlib.Core.Path.{fun_ext}
use Rattle.std.specs.Bool.{⊤}
use Rattle.std.proofs.lemmas.Bool.{cases_eq, both_ways, eq-eqb, ne_eqb, cond-true, cond-false, lt-ltb, le-ltb}
use Rattle.token_pool.specs.declared.node.Node.{Node}
use Rattle.token_pool.specs.declared.chain.FreeNodes.{FreeNodes}
use Rattle.token_pool.specs.Pools.{there, put, empty_pool, made, recount, removed, list_nodes, nodes_taken}
use Rattle.token_pool.specs.Nodes.{at, Chain, tokens_from, list_at, count_at, Frees, nodes_pool, size, total, Sound, Moved, recounted, top_nodes}
use Rattle.token_pool.proofs.Chains.{head_in}
use Rattle.token_pool.proofs.Lists.{list_held, list_absent, count_held, count_absent, size_held, size_absent, tokens_length, head_write, remove_all, Changed}

-- the tokens of a list that is there, and of one that is not
pub length_held : (ns : List Node) (f b : ℕ) → (at ns b).owner ≡ b → length ((nodes_pool ns f).list b) ≡ (at ns b).left
unfolding nodes_pool
length_held ns f b e = ap length (list_held ns b e) ∙ tokens_length ns (at ns b).next (at ns b).left

pub length_absent : (ns : List Node) (f b : ℕ) → (at ns b).owner ≢ b → length ((nodes_pool ns f).list b) ≡ 0
unfolding nodes_pool
length_absent ns f b n = ap length (list_absent ns b n)

pub there_held : (ns : List Node) (f : FreeNodes) (b : ℕ) → Sound ns f → (at ns b).owner ≡ b → there (nodes_pool ns f.count) b ≡ true
there_held ns f b s e = lt-ltb 0 _ (omega (arith, length_held ns f.count b e, (s.heads b e).0))

pub there_absent : (ns : List Node) (f b : ℕ) → (at ns b).owner ≢ b → there (nodes_pool ns f) b ≡ false
there_absent ns f b n = le-ltb 0 _ (omega (arith, length_absent ns f b n))

-- what a head that was looked for says of its list
pub record HeadReads (ns : List Node) (f : FreeNodes) (b : ℕ) (r : Option Node) : Type 0 where
  pub there : there (nodes_pool ns f.count) b ≡ is_some r
  pub count : MatchOption r ((nodes_pool ns f.count).count b ≡ 0) (λ n. (nodes_pool ns f.count).count b ≡ n.count)
  pub tokens : MatchOption r ((nodes_pool ns f.count).list b ≡ []) (λ n. (nodes_pool ns f.count).list b ≡ tokens_from ns n.next n.left)
  pub length : MatchOption r (length ((nodes_pool ns f.count).list b) ≡ 0) (λ n. length ((nodes_pool ns f.count).list b) ≡ n.left)
  pub chain : MatchOption r ⊤ (λ n. Chain ns b n.next n.left)

pub head_reads : (ns : List Node) (f : FreeNodes) (b : ℕ) (r : Option Node) → Sound ns f → MatchOption r ((at ns b).owner ≢ b) (λ n. (at ns b ≡ n) × (n.owner ≡ b)) → HeadReads ns f b r
unfolding nodes_pool
head_reads ns f b None s h = record {
  there = there_absent ns f.count b h;
  count = count_absent ns b h;
  tokens = list_absent ns b h;
  length = length_absent ns f.count b h;
  chain = tt;
}
head_reads ns f b (Some n) s h =
    let o : (at ns b).owner ≡ b = cc in
    record {
      there = there_held ns f b s o;
      count = count_held ns b o ∙ ap (λ (x : Node). x.count) h.0;
      tokens = list_held ns b o ∙ ap (λ (x : Node). tokens_from ns x.next x.left) h.0;
      length = length_held ns f.count b o ∙ ap (λ (x : Node). x.left) h.0;
      chain = subst (λ (x : Node). Chain ns b x.next x.left) h.0 (s.heads b o).1.3;
    }

-- a list that is there has its head
pub there_owns : (ns : List Node) (f b : ℕ) → there (nodes_pool ns f) b ≡ true → (at ns b).owner ≡ b
there_owns ns f b h = ⊎_elim (λ e. e) (λ n. absurd (both_ways _ (there_absent ns f b n) h)) (cases_eq (at ns b).owner b)

-- a function that differs in one value
put_is : {C : Type 0} (f g : ℕ → C) (b : ℕ) (x : C) → g b ≡ x → ((c : ℕ) → c ≢ b → g c ≡ f c) → g ≡ put f b x
put_is f g b x h o = fun_ext (λ c. ⊎_elim (λ e. ap g (sym e) ∙ h ∙ sym (cond-true (eqb b c) x (f c) (eq-eqb b c e)))
    (λ n. o c (λ z. n (sym z)) ∙ sym (cond-false (eqb b c) x (f c) (ne_eqb b c n)))
    (cases_eq b c))

-- no list at all
pub model_empty : (ns : List Node) (f : ℕ) → ((c : ℕ) → (at ns c).owner ≢ c) → nodes_pool ns f ≡ empty_pool f
unfolding nodes_pool
model_empty ns f n =
    let l : list_at ns ≡ (λ b. []) = fun_ext (λ b. list_absent ns b (n b)) in
    let k : count_at ns ≡ (λ b. 0) = fun_ext (λ b. count_absent ns b (n b)) in
    cc

-- the list b was made, removed, or counted anew
pub model_made : (ns ms : List Node) (b f g : ℕ) (ts : List ℕ) → g ≡ f - (length ts + 1) → Changed ns ms b ts 0 → nodes_pool ms g ≡ made (nodes_pool ns f) b ts
unfolding nodes_pool
model_made ns ms b f g ts e h =
    let l : list_at ms ≡ put (list_at ns) b ts = put_is (list_at ns) (list_at ms) b ts h.tokens (λ c n. (h.others c n).tokens) in
    let k : count_at ms ≡ put (count_at ns) b 0 = put_is (count_at ns) (count_at ms) b 0 h.counts (λ c n. (h.others c n).counts) in
    cc

pub model_removed : (ns ms : List Node) (b f g : ℕ) → g ≡ f + suc (at ns b).left → (at ns b).owner ≡ b → Changed ns ms b [] 0 → nodes_pool ms g ≡ removed (nodes_pool ns f) b
unfolding nodes_pool
model_removed ns ms b f g d e h =
    let l : list_at ms ≡ put (list_at ns) b [] = put_is (list_at ns) (list_at ms) b [] h.tokens (λ c n. (h.others c n).tokens) in
    let k : count_at ms ≡ put (count_at ns) b 0 = put_is (count_at ns) (count_at ms) b 0 h.counts (λ c n. (h.others c n).counts) in
    let w : length (list_at ns b) ≡ (at ns b).left = length_held ns f b e in
    let z : g ≡ f + (length (list_at ns b) + 1) = omega arith in
    cc

-- the nodes of the list b, n tokens and a head, went to the free ones
pub removes : (ns ms : List Node) (b n : ℕ) (f g : FreeNodes) → Sound ns f → there (nodes_pool ns f.count) b ≡ true → n ≡ length ((nodes_pool ns f.count).list b)
    → length ms ≡ length ns → g.count ≡ f.count + (n + 1) → Frees ms g → Moved ns ms b top_nodes → (0 < n + 1 → (at ms b).owner ≡ top_nodes)
    → Sound ms g × (nodes_pool ms g.count ≡ removed (nodes_pool ns f.count) b)
removes ns ms b n f g s t e le eg hf mv gone =
    let o = there_owns ns f.count b t in
    let l : n ≡ (at ns b).left = e ∙ length_held ns f.count b o in
    let m : g.count ≡ f.count + suc (at ns b).left = omega arith in
    let q = remove_all ns ms b f g s o le m hf mv (gone (omega arith)) in
    (q.0, model_removed ns ms b f.count g.count m o q.1)

pub model_recount : (ns ms : List Node) (b f n : ℕ) → Changed ns ms b (list_at ns b) n → nodes_pool ms f ≡ recount (nodes_pool ns f) b n
unfolding nodes_pool
model_recount ns ms b f n h =
    let l : list_at ms ≡ list_at ns = fun_ext (λ c. ⊎_elim (λ e. ap (list_at ms) e ∙ h.tokens ∙ ap (list_at ns) (sym e)) (λ d. (h.others c d).tokens) (cases_eq c b)) in
    let k : count_at ms ≡ put (count_at ns) b n = put_is (count_at ns) (count_at ms) b n h.counts (λ c d. (h.others c d).counts) in
    cc

pub counts_to : (ns : List Node) (f : FreeNodes) (b u : ℕ) → Sound ns f → (at ns b).owner ≡ b
    → let ms : List Node = set ns b (recounted (at ns b) u) in
    Sound ms f × (nodes_pool ms f.count ≡ recount (nodes_pool ns f.count) b u)
counts_to ns f b u s o =
    let w = head_write ns b f (recounted (at ns b) u) s o o refl refl in
    (w.0, model_recount ns _ b f.count u w.1)

-- the nodes that the lists take, counted either way
list_nodes_lem : (ns : List Node) (f : FreeNodes) (b : ℕ) → Sound ns f → list_nodes (nodes_pool ns f.count) b ≡ size ns b
list_nodes_lem ns f b s =
    ⊎_elim (λ e. cond-true _ _ 0 (there_held ns f b s e) ∙ omega (arith, length_held ns f.count b e, size_held ns b e))
    (λ n. cond-false _ _ 0 (there_absent ns f.count b n) ∙ sym (size_absent ns b n))
    (cases_eq (at ns b).owner b)

pub nodes_taken_lem : (ns : List Node) (f : FreeNodes) (n : ℕ) → Sound ns f → nodes_taken (nodes_pool ns f.count) n ≡ total ns n
nodes_taken_lem ns f zero s = refl
nodes_taken_lem ns f (suc n) s = cc (list_nodes_lem ns f n s, nodes_taken_lem ns f n s)

pub adds_up : (ns : List Node) (f : FreeNodes) → Sound ns f → (nodes_pool ns f.count).free + nodes_taken (nodes_pool ns f.count) (length ns) ≡ length ns
unfolding nodes_pool
adds_up ns f s = omega (arith, nodes_taken_lem ns f (length ns) s, s.all)

pub there_past : (ns : List Node) (f b : ℕ) → length ns ≤ b → there (nodes_pool ns f) b ≡ false
there_past ns f b l = there_absent ns f b (λ e. let w : b < length ns = head_in ns b e in omega arith)
