-- Reading the tokens of a chain one by one at a cursor.
use Rattle.std.proofs.Common.{◌≡◌, ℕ, zero, suc, ◌-◌, ◌<◌, ◌≤◌, true, false, ◌&&◌, eqb, ltb, List, [], ◌∷◌, length, sym, refl, ap, ◌∙◌, arith}
use Rattle.std.proofs.lemmas.Bool.{cond-true, cond-false, le-ltb, lt-ltb, ne_eqb, eq-eqb, and_left, and_right, and_from}
use Rattle.token_pool.specs.declared.node.Node.{Node}
use Rattle.token_pool.specs.Nodes.{at, Chain, tokens_from, belongs, rest_from}

-- a node of a chain belongs to it
pub does_belong : (ns : List Node) (o i k : ℕ) → i < length ns → (at ns i).owner ≡ o → (at ns i).left ≡ k → belongs ns o i k ≡ true
does_belong ns o i k l eo el =
    and_from (ltb i (length ns)) (eqb (at ns i).owner o && eqb (at ns i).left k) (lt-ltb i (length ns) l)
    (and_from (eqb (at ns i).owner o) (eqb (at ns i).left k) (eq-eqb (at ns i).owner o eo) (eq-eqb (at ns i).left k el))

-- all of a chain is read
pub rest_all : (ns : List Node) (o i k : ℕ) → Chain ns o i k → rest_from ns o i k ≡ tokens_from ns i k
rest_all ns o i zero h = refl
rest_all ns o i (suc k) h =
    cond-true (belongs ns o i k) ((at ns i).token ∷ rest_from ns o (at ns i).next k) [] (does_belong ns o i k h.0 h.1 h.2)
    ∙ ap (λ (xs : List ℕ). (at ns i).token ∷ xs) (rest_all ns o (at ns i).next k h.3)

-- one token is read
pub rest_more : (ns : List Node) (o i k : ℕ) → 0 < k → i < length ns → (at ns i).owner ≡ o → (at ns i).left ≡ k - 1
    → rest_from ns o i k ≡ (at ns i).token ∷ rest_from ns o (at ns i).next (at ns i).left
rest_more ns o i zero p l eo el = absurd (omega arith)
rest_more ns o i (suc k) p l eo el =
    let e : (at ns i).left ≡ k = omega arith in
    cond-true (belongs ns o i k) ((at ns i).token ∷ rest_from ns o (at ns i).next k) [] (does_belong ns o i k l eo e)
    ∙ ap (λ (x : ℕ). (at ns i).token ∷ rest_from ns o (at ns i).next x) (sym e)

-- nothing is read where the node is another's
pub rest_none : (ns : List Node) (o i k : ℕ) → belongs ns o i (k - 1) ≡ false → rest_from ns o i k ≡ []
rest_none ns o i zero h = refl
rest_none ns o i (suc k) h =
    let e : suc k - 1 ≡ k = omega arith in
    cond-false (belongs ns o i k) ((at ns i).token ∷ rest_from ns o (at ns i).next k) [] (ap (belongs ns o i) (sym e) ∙ h)

-- the ways in which a cursor is at its end
pub rest_end : (ns : List Node) (o i k : ℕ) → k ≡ 0 → rest_from ns o i k ≡ []
rest_end ns o i k e = ap (rest_from ns o i) e

pub rest_past : (ns : List Node) (o i k : ℕ) → length ns ≤ i → rest_from ns o i k ≡ []
rest_past ns o i k l = rest_none ns o i k (and_left (ltb i (length ns)) (eqb (at ns i).owner o && eqb (at ns i).left (k - 1)) (le-ltb i (length ns) l))

pub rest_other : (ns : List Node) (o i k : ℕ) → ((at ns i).owner ≡ o → ⊥) → rest_from ns o i k ≡ []
rest_other ns o i k n = rest_none ns o i k
    (and_right (ltb i (length ns)) (eqb (at ns i).owner o && eqb (at ns i).left (k - 1))
    (and_left (eqb (at ns i).owner o) (eqb (at ns i).left (k - 1)) (ne_eqb (at ns i).owner o n)))

pub rest_out : (ns : List Node) (o i k : ℕ) → ((at ns i).left ≡ k - 1 → ⊥) → rest_from ns o i k ≡ []
rest_out ns o i k n = rest_none ns o i k
    (and_right (ltb i (length ns)) (eqb (at ns i).owner o && eqb (at ns i).left (k - 1))
    (and_right (eqb (at ns i).owner o) (eqb (at ns i).left (k - 1)) (ne_eqb (at ns i).left (k - 1) n)))
