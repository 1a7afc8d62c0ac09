-- Nodes in the order of their places, and what stands at a place.
use Rattle.std.specs.Prelude.{ℕ, ◌+◌, ◌≤◌, Bool, cond, not, List, [], ◌∷◌, Some, None, Option, ◌==◌, ◌≢◌, nat_le, nat_lt}
use Rattle.std.specs.List.{list_all}
use Rattle.stores.specs.declared.cell.Cell.{Cell}
use Rattle.stores.specs.Cells.{cell, is_blank}
use Rattle.sparse.specs.declared.node.Node.{Node}
use Rattle.sparse.specs.declared.node.Tip.{Tip}

-- a cell at a place
abbrev pub node : {V : Type 0} → ℕ → Cell V → Node V
node p c = record { place = p; cell = c }

-- a node to hand over, of which nothing is used but the room that it takes
abbrev pub empty_tip : {V : Type 0} → V → Tip V
empty_tip zero = record { node = node 0 (cell zero 1); left = 0; right = 0 }

-- each place is past the one before, the first at or past lo and the last before hi
abbrev pub Ascends : {V : Type 0} → ℕ → ℕ → List (Node V) → Type 0
Ascends lo hi [] = lo ≤ hi
Ascends lo hi (x ∷ xs) = (lo ≤ x.place) × Ascends (x.place + 1) hi xs

-- no node is that of the place p
abbrev pub Absent : {V : Type 0} → ℕ → List (Node V) → Type 0
Absent p [] = Unit {0}
Absent p (x ∷ xs) = (x.place ≢ p) × Absent p xs

-- the cell at a place: that of its node, or z if it has none
abbrev pub look : {V : Type 0} → Cell V → List (Node V) → ℕ → Cell V
look z [] q = z
look z (x ∷ xs) q = cond (x.place == q) x.cell (look z xs q)

-- the cell of the node of a place
abbrev pub found : {V : Type 0} → ℕ → List (Node V) → Option (Cell V)
found p [] = None
found p (x ∷ xs) = cond (x.place == p) (Some x.cell) (found p xs)

-- the first node at or past a place
abbrev pub first_from : {V : Type 0} → ℕ → List (Node V) → Option (Node V)
first_from p [] = None
first_from p (x ∷ xs) = cond (nat_le p x.place) (Some x) (first_from p xs)

-- nodes in order with one node more
abbrev pub ins : {V : Type 0} → Node V → List (Node V) → List (Node V)
ins v [] = v ∷ []
ins v (x ∷ xs) = cond (nat_lt v.place x.place) (v ∷ x ∷ xs) (x ∷ ins v xs)

-- nodes without that of a place
abbrev pub del : {V : Type 0} → ℕ → List (Node V) → List (Node V)
del p [] = []
del p (x ∷ xs) = cond (x.place == p) xs (x ∷ del p xs)

-- nodes with another cell at that of a place
abbrev pub over : {V : Type 0} → ℕ → Cell V → List (Node V) → List (Node V)
over p c [] = []
over p c (x ∷ xs) = cond (x.place == p) (node x.place c ∷ xs) (x ∷ over p c xs)

-- nodes without the first
abbrev pub behind : {V : Type 0} → List (Node V) → List (Node V)
behind [] = []
behind (x ∷ xs) = xs

-- of two nodes the one of the lesser place: the first, if both have the same
abbrev pub lesser : {V : Type 0} → Node V → Node V → Node V
lesser x y = cond (nat_lt y.place x.place) y x

-- the other of the two
abbrev pub greater : {V : Type 0} → Node V → Node V → Node V
greater x y = cond (nat_lt y.place x.place) x y

-- no node holds a blank cell
abbrev pub all_filled : {V : Type 0} → (V → Bool) → List (Node V) → Bool
all_filled is_zero xs = list_all (λ x. not (is_blank is_zero x.cell)) xs
