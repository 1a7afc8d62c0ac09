-- What moving nodes between chains does to the lists that the nodes hold.
use Rattle.std.proofs.Common.{◌≡◌, ℕ, zero, suc, ◌+◌, ◌<◌, ◌≤◌, ◌≢◌, ◌⊎◌, List, [], length, get_or, set, sym, refl, ap, ◌∙◌, subst, inl, inr, ⊎_elim, arith, length-set}
use Rattle.std.proofs.lemmas.Bool.{cases_eq, cases_lt}
use Rattle.std.proofs.lemmas.Bool.Decides.{nat_tests}
use Rattle.token_pool.specs.declared.node.Node.{Node}
use Rattle.token_pool.specs.declared.chain.FreeNodes.{FreeNodes}
use Rattle.token_pool.specs.Nodes.{top_nodes, at, Chain, Frees, tokens_from, list_at, count_at, size, total, Headed, Sound, Moved}
use Rattle.token_pool.proofs.Chains.{blank, read, at_other, at_same, head_in, chain_kept, tokens_kept, chain_set, tokens_set, total_one, size_le, chain_step, moved_at}

-- what the nodes say of a list that is there, and of one that is not
pub list_held : (ns : List Node) (c : ℕ) → (at ns c).owner ≡ c → list_at ns c ≡ tokens_from ns (at ns c).next (at ns c).left
list_held ns c e = grind (arith, nat_tests)

pub list_absent : (ns : List Node) (c : ℕ) → (at ns c).owner ≢ c → list_at ns c ≡ []
list_absent ns c n = grind (arith, nat_tests)

pub count_held : (ns : List Node) (c : ℕ) → (at ns c).owner ≡ c → count_at ns c ≡ (at ns c).count
count_held ns c e = grind (arith, nat_tests)

pub count_absent : (ns : List Node) (c : ℕ) → (at ns c).owner ≢ c → count_at ns c ≡ 0
count_absent ns c n = grind (arith, nat_tests)

pub size_held : (ns : List Node) (c : ℕ) → (at ns c).owner ≡ c → size ns c ≡ suc (at ns c).left
size_held ns c e = grind (arith, nat_tests)

pub size_absent : (ns : List Node) (c : ℕ) → (at ns c).owner ≢ c → size ns c ≡ 0
size_absent ns c n = grind (arith, nat_tests)

pub tokens_length : (ns : List Node) (i k : ℕ) → length (tokens_from ns i k) ≡ k
tokens_length ns i zero = refl
tokens_length ns i (suc k) = ap suc (tokens_length ns (at ns i).next k)

-- the list c has the same tokens and the same count
pub record Same (ns ms : List Node) (c : ℕ) : Type 0 where
  pub tokens : list_at ms c ≡ list_at ns c
  pub counts : count_at ms c ≡ count_at ns c

-- what a move leaves of another list
record Kept (ns ms : List Node) (c : ℕ) : Type 0 where
  pub same : Same ns ms c
  pub sized : size ms c ≡ size ns c
  pub heads : (at ms c).owner ≡ c → Headed ms c

kept_absent : (ns ms : List Node) (c : ℕ) → (at ns c).owner ≢ c → (at ms c).owner ≢ c → Kept ns ms c
kept_absent ns ms c n m = record {
  same = record { tokens = list_absent ms c m ∙ sym (list_absent ns c n); counts = count_absent ms c m ∙ sym (count_absent ns c n) };
  sized = size_absent ms c m ∙ sym (size_absent ns c n);
  heads = λ e. absurd (m e);
}

kept_held : (ns ms : List Node) (o p c : ℕ) → length ms ≡ length ns → Moved ns ms o p → c ≢ o
    → at ms c ≡ at ns c → (at ns c).owner ≡ c → Headed ns c → Kept ns ms c
kept_held ns ms o p c le f ne e q h =
    let k : (j : ℕ) → (at ns j).owner ≡ c → at ms j ≡ at ns j = λ j a. moved_at ns ms o p c f ne j a in
    let t : tokens_from ms (at ns c).next (at ns c).left ≡ tokens_from ns (at ns c).next (at ns c).left = tokens_kept ns ms c (at ns c).next (at ns c).left (λ j a _. k j a) h.1.3 in
    let w : (at ms c).owner ≡ c = cc in
    let l : (at ms c).left ≡ (at ns c).left = cc in
    record {
      same = record { tokens = cc (list_held ms c w, list_held ns c q); counts = cc (count_held ms c w, count_held ns c q) };
      sized = cc (size_held ms c w, size_held ns c q);
      heads = λ d. (rw e h.0, subst (λ (x : ℕ). Chain ms c c (suc x)) (sym l) (chain_kept ns ms c c (suc (at ns c).left) le (λ j a _. k j a) h.1));
    }

moved_list : (ns ms : List Node) (o p c : ℕ) → length ms ≡ length ns → Moved ns ms o p
    → (c < length ns → (c ≢ o) × (c ≢ p)) → ((at ns c).owner ≡ c → Headed ns c) → Kept ns ms c
moved_list ns ms o p c le f ne h =
    ⊎_elim (λ l. ⊎_elim (λ e. ⊎_elim (λ q. kept_held ns ms o p c le f (ne l).0 e q (h q))
    (λ q. kept_absent ns ms c q (λ z. q (ap (λ (n : Node). n.owner) (sym e) ∙ z)))
    (cases_eq (at ns c).owner c))
    (λ e. kept_absent ns ms c (λ z. (ne l).0 (sym z ∙ e.0)) (λ z. (ne l).1 (sym z ∙ e.1)))
    (f c))
    (λ g. kept_absent ns ms c (λ z. let w : c < length ns = head_in ns c z in omega arith) (λ z. let w : c < length ms = head_in ms c z in omega arith))
    (cases_lt c (length ns))

-- sound nodes after a move that concerns the list b alone
pub moved_sound : (ns ms : List Node) (o p b : ℕ) (f g : FreeNodes) → Sound ns f → length ms ≡ length ns → Moved ns ms o p
    → b < length ns
    → ((c : ℕ) → c < length ns → c ≢ b → (c ≢ o) × (c ≢ p))
    → Frees ms g
    → ((at ms b).owner ≡ b → Headed ms b)
    → g.count + size ms b ≡ f.count + size ns b
    → Sound ms g × ((c : ℕ) → c ≢ b → Same ns ms c)
moved_sound ns ms o p b f g s le mv lb ne hf hb hs =
    let k : (c : ℕ) → c ≢ b → Kept ns ms c = λ c n. moved_list ns ms o p c le mv (λ l. ne c l n) (s.heads c) in
    let t : total ms (length ns) + size ns b ≡ total ns (length ns) + size ms b = total_one ns ms (length ns) b lb (λ c n. (k c n).sized) in
    let u : total ms (length ms) ≡ total ms (length ns) = ap (total ms) le in
    let a : f.count + total ns (length ns) ≡ length ns = s.all in (
      record {
        few = omega (arith, s.few);
        frees = hf;
        heads = λ c e. ⊎_elim (λ q. subst (λ (x : ℕ). (at ms x).owner ≡ x → Headed ms x) (sym q) hb e) (λ n. (k c n).heads e) (cases_eq c b);
        all = omega arith;
      },
      (λ c n. (k c n).same),
    )

-- what becomes of the list b, and of all others
pub record Changed (ns ms : List Node) (b : ℕ) (ts : List ℕ) (n : ℕ) : Type 0 where
  pub tokens : list_at ms b ≡ ts
  pub counts : count_at ms b ≡ n
  pub others : (c : ℕ) → c ≢ b → Same ns ms c

-- the head of a list is written, with the same links
pub head_write : (ns : List Node) (b : ℕ) (f : FreeNodes) (v : Node) → Sound ns f → (at ns b).owner ≡ b
    → v.owner ≡ b → v.left ≡ (at ns b).left → v.next ≡ (at ns b).next
    → Sound (set ns b v) f × Changed ns (set ns b v) b (list_at ns b) v.count
head_write ns b f v s e eo el en =
    let ms : List Node = set ns b v in
    let lb : b < length ns = head_in ns b e in
    let q : at ms b ≡ v = at_same ns b v lb in
    let h : Chain ns b b (suc (at ns b).left) = (s.heads b e).1 in
    let w : (at ms b).owner ≡ b = cc in
    let el' : (at ms b).left ≡ (at ns b).left = cc in
    let en' : (at ms b).next ≡ (at ns b).next = cc in
    let mv : Moved ns ms b b = λ j. ⊎_elim (λ z. inr (rw z e, rw z w)) (λ n. inl (at_other ns b j v n)) (cases_eq j b) in
    let c : Chain ms b (at ns b).next (at ns b).left = chain_set ns b (at ns b).next (at ns b).left b v (λ z. omega arith) h.3 in
    let t : tokens_from ms (at ns b).next (at ns b).left ≡ tokens_from ns (at ns b).next (at ns b).left = tokens_set ns b (at ns b).next (at ns b).left b v (λ z. omega arith) h.3 in
    let hb : Headed ms b = (omega (arith, (s.heads b e).0), (simp length-set lb, w, refl, rw (en', el') c)) in
    let sz : f.count + size ms b ≡ f.count + size ns b = cc (size_held ms b w, size_held ns b e) in
    let r = moved_sound ns ms b b b f f s (length-set ns b v) mv lb (λ c l n. (n, n))
    (chain_set ns top_nodes f.first f.count b v (λ z. absurd (omega (arith, s.few))) s.frees) (λ z. hb) sz in (
      r.0,
      record { tokens = cc (list_held ms b w, list_held ns b e); counts = cc (count_held ms b w); others = r.1 },
    )

-- a list went to the free nodes, which are g then
pub remove_all : (ns ms : List Node) (b : ℕ) (f g : FreeNodes) → Sound ns f → (at ns b).owner ≡ b → length ms ≡ length ns → g.count ≡ f.count + suc (at ns b).left
    → Frees ms g → Moved ns ms b top_nodes → (at ms b).owner ≡ top_nodes
    → Sound ms g × Changed ns ms b [] 0
remove_all ns ms b f g s e le em hf mv gone =
    let lb : b < length ns = head_in ns b e in
    let n : (at ms b).owner ≢ b = λ z. omega (arith, s.few) in
    let sz : size ms b ≡ 0 = size_absent ms b n in
    let sn : size ns b ≡ suc (at ns b).left = size_held ns b e in
    let q = moved_sound ns ms b top_nodes b f g s le mv lb (λ c l d. (d, (λ z. omega (arith, s.few)))) hf (λ z. absurd (n z)) (omega arith) in
    (q.0, record { tokens = list_absent ms b n; counts = count_absent ms b n; others = q.1 })

pub room : (ns : List Node) (b : ℕ) (f : FreeNodes) → Sound ns f → (at ns b).owner ≡ b → f.count + suc (at ns b).left ≤ top_nodes
room ns b f s e =
    let l : size ns b ≤ total ns (length ns) = size_le ns (length ns) b (head_in ns b e) in
    let z : size ns b ≡ suc (at ns b).left = size_held ns b e in
    omega (arith, s.few, s.all)

-- a list was made of the first free node, its head, and a chain that holds the tokens; the free nodes are g then
pub build_all : (ns ms : List Node) (ts : List ℕ) (b first : ℕ) (f g : FreeNodes) → Sound ns f → f.first ≡ b → 0 < length ts → g.count + (length ts + 1) ≡ f.count → length ms ≡ length ns
    → Moved (set ns b (record { owner = b; left = length ts; next = 0; token = 0; count = 0 })) ms top_nodes b
    → Frees ms g
    → Chain ms b first (length ts)
    → tokens_from ms first (length ts) ≡ ts
    → let ls : List Node = set ms b (record (get_or ms b blank) { next = first }) in
    Sound ls g × Changed ns ls b ts 0 × ((at ns b).owner ≢ b)
build_all ns ms ts b first f g s ef lz lt le mv hf hc hi =
    let v0 : Node = record { owner = b; left = length ts; next = 0; token = 0; count = 0 } in
    let v : Node = record { owner = b; left = length ts; next = first; token = 0; count = 0 } in
    let u : Node = record (get_or ms b blank) { next = first } in
    let ls : List Node = set ms b u in
    let a = chain_step ns top_nodes b f.count (omega arith) (subst (λ (x : ℕ). Chain ns top_nodes x f.count) ef s.frees) in
    let lb : b < length ns = a.0 in
    let lm : b < length ms = omega arith in
    let nb : b ≢ top_nodes = λ z. omega (arith, s.few) in
    let na : (at ns b).owner ≢ b = λ z. nb (sym z ∙ a.1) in
    let q0 : at (set ns b v0) b ≡ v0 = at_same ns b v0 lb in
    let qm : at ms b ≡ v0 = ⊎_elim (λ z. z ∙ q0) (λ z. absurd (nb (ap (λ (n : Node). n.owner) (sym q0) ∙ z.0))) (mv b) in
    let q : at ls b ≡ v = at_same ms b u lm ∙ ap (λ (n : Node). record n { next = first }) (read ms b lm ∙ qm) in
    let om : (at ms b).owner ≡ b = ap (λ (n : Node). n.owner) qm in
    let lm' : (at ms b).left ≡ length ts = ap (λ (n : Node). n.left) qm in
    let w : (at ls b).owner ≡ b = ap (λ (n : Node). n.owner) q in
    let el : (at ls b).left ≡ length ts = ap (λ (n : Node). n.left) q in
    let en : (at ls b).next ≡ first = ap (λ (n : Node). n.next) q in
    let ln : length ls ≡ length ns = length-set ms b u ∙ le in
    let mw : Moved ns ls top_nodes b = λ j. ⊎_elim
    (λ z. inr (rw z a.1, rw z w))
    (λ n. subst (λ (y : Node). (y ≡ at ns j) ⊎ (((at ns j).owner ≡ top_nodes) × (y.owner ≡ b))) (sym (at_other ms b j u n))
    (subst (λ (y : Node). (at ms j ≡ y) ⊎ ((y.owner ≡ top_nodes) × ((at ms j).owner ≡ b))) (at_other ns b j v0 n) (mv j)))
    (cases_eq j b) in
    let c : Chain ls b first (length ts) = chain_set ms b first (length ts) b u (λ z. omega arith) hc in
    let t : tokens_from ls first (length ts) ≡ tokens_from ms first (length ts) = tokens_set ms b first (length ts) b u (λ z. omega arith) hc in
    let hb : Headed ls b = (omega arith, (omega arith, w, refl, rw (en, el) c)) in
    let hg : Frees ls g = chain_set ms top_nodes g.first g.count b u (λ z. absurd (nb (sym om ∙ z))) hf in
    let sz : size ls b ≡ suc (length ts) = size_held ls b w ∙ ap suc el in
    let sn : size ns b ≡ 0 = size_absent ns b na in
    let r = moved_sound ns ls top_nodes b b f g s ln mw lb (λ c l n. ((λ z. omega (arith, s.few)), n)) hg (λ z. hb) (omega arith) in (
      r.0,
      record { tokens = cc (list_held ls b w, t, hi, en, el); counts = count_held ls b w ∙ ap (λ (n : Node). n.count) q; others = r.1 },
      na,
    )

no_total : (ns : List Node) (m : ℕ) → ((c : ℕ) → (at ns c).owner ≢ c) → total ns m ≡ 0
no_total ns zero n = refl
no_total ns (suc m) n = let a : size ns m ≡ 0 = size_absent ns m (n m) in let b : total ns m ≡ 0 = no_total ns m n in omega arith

-- nodes that are all free
pub clear_all : (ns : List Node) (f : FreeNodes) → length ns ≤ top_nodes → f.count ≡ length ns → Frees ns f
    → ((j : ℕ) → j < length ns → (at ns j).owner ≡ top_nodes)
    → Sound ns f × ((c : ℕ) → (at ns c).owner ≢ c)
clear_all ns f l e h owned =
    let n : (c : ℕ) → (at ns c).owner ≢ c = λ c z. let g : c < length ns = head_in ns c z in let y : (at ns c).owner ≡ top_nodes = owned c g in omega arith in
    let t : total ns (length ns) ≡ 0 = no_total ns (length ns) n in
    (record { few = l; frees = h; heads = λ b z. absurd (n b z); all = omega arith }, n)
