-- Nodes in the order of their places.
use Rattle.std.proofs.Common.{ℕ, ◌+◌, ◌≤◌, List, [], ◌∷◌, ◌++◌, arith}
use Rattle.sparse.specs.Listing.{Ascends}
use Rattle.sparse.specs.declared.node.Node.{Node}

-- the start is not past the end
pub asc_ends : {V : Type 0} (lo hi : ℕ) (xs : List (Node V)) → Ascends lo hi xs → lo ≤ hi
asc_ends lo hi [] h = h
asc_ends lo hi (x ∷ xs) h = let e = asc_ends (x.place + 1) hi xs h.1 in let f = h.0 in omega arith

-- a lower start
pub asc_wider : {V : Type 0} (lo mid hi : ℕ) (xs : List (Node V)) → lo ≤ mid → Ascends mid hi xs → Ascends lo hi xs
asc_wider lo mid hi [] l h = omega arith
asc_wider lo mid hi (x ∷ xs) l h = let f = h.0 in (omega arith, h.1)

-- one after another
pub asc_join : {V : Type 0} (lo mid hi : ℕ) (xs ys : List (Node V)) → Ascends lo mid xs → Ascends mid hi ys → Ascends lo hi (xs ++ ys)
asc_join lo mid hi [] ys h k = asc_wider lo mid hi ys h k
asc_join lo mid hi (x ∷ xs) ys h k = (h.0, asc_join (x.place + 1) mid hi xs ys h.1 k)
