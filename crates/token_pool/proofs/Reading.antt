-- Reading a list in turns that count from 0.
use Rattle.std.proofs.Common.{◌≡◌, ℕ, ◌+◌, ◌<◌, ◌≤◌, List, [], ◌∷◌, ◌++◌, length, get_or, take, drop, set, sym, ap, ◌∙◌, arith}
use Rattle.std.specs.List.{enumerate_from}
use Rattle.std.proofs.lemmas.List.{append_assoc, drop_more, take_more, set_at, length-take-le}
use Rattle.std.proofs.lemmas.List.FromFn.{length-enumerate_from, get_or-enumerate_from}

-- what turn k is handed: its number, and what stands there
pub turn_at : (ts : List ℕ) (k : ℕ) (p : ℕ × ℕ) → (k < length (enumerate_from 0 ts)) × (p ≡ get_or (enumerate_from 0 ts) k p)
    → (k < length ts) × (p.0 ≡ k) × (p.1 ≡ get_or ts k p.1)
turn_at ts k p h =
    let l : k < length ts = omega (arith, h.0, length-enumerate_from 0 ts) in
    let e : p ≡ (0 + k, get_or ts k p.1) = h.1 ∙ get_or-enumerate_from 0 ts k p l in
    let n : p.0 ≡ 0 + k = ap (λ (q : ℕ × ℕ). q.0) e in
    (l, omega arith, ap (λ (q : ℕ × ℕ). q.1) e)

-- one turn of a copy: x, the next of the list, is written where the list goes on
pub copy_turn : (ts ws xs : List ℕ) (k x : ℕ) → length ts ≤ length ws → k < length ts → x ≡ get_or ts k x → xs ≡ take k ts ++ drop k ws
    → set xs k x ≡ take (k + 1) ts ++ drop (k + 1) ws
copy_turn ts ws xs k x l h a e =
    ap (λ (ys : List ℕ). set ys k x) (e ∙ ap (λ (ys : List ℕ). take k ts ++ ys) (drop_more ws k 0 (omega arith)))
    ∙ set_at (take k ts) (get_or ws k 0) (drop (k + 1) ws) x k (length-take-le k ts (omega arith))
    ∙ sym (append_assoc (take k ts) (x ∷ []) (drop (k + 1) ws))
    ∙ ap (λ (y : ℕ). (take k ts ++ (y ∷ [])) ++ drop (k + 1) ws) a
    ∙ ap (λ (ys : List ℕ). ys ++ drop (k + 1) ws) (sym (take_more ts k x h))
