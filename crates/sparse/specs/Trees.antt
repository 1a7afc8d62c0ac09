-- A tree by places in a row of nodes: an index past the row is no node. Level 1 covers one place, and each level above twice as many as the one below.
use Rattle.std.specs.Prelude.{◌≡◌, ℕ, zero, suc, ◌+◌, ◌-◌, ◌*◌, ◌<◌, ◌≤◌, max, List, [], ◌∷◌, ◌++◌, Some, None, Option}
use Rattle.std.specs.List.{slice_get}
use Rattle.sparse.specs.declared.node.Node.{Node}
use Rattle.sparse.specs.declared.node.Tip.{Tip}

-- how many places a level covers
abbrev pub width : ℕ → ℕ
width zero = 0
width (suc zero) = 1
width (suc (suc n)) = 2 * width (suc n)

-- a node, and what its branches hold
abbrev pub spread : {V : Type 0} → Option (Tip V) → (ℕ → List (Node V)) → List (Node V)
spread None f = []
spread (Some t) f = t.node ∷ (f t.left ++ f t.right)

-- what a tree holds, in the order of the places
abbrev pub listed : {V : Type 0} → ℕ → List (Tip V) → ℕ → List (Node V)
listed zero ts i = []
listed (suc n) ts i = spread (slice_get ts i) (listed n ts)

-- a node holds the least place of its tree, in [a, b), of which the upper half is the right one's
abbrev pub Rooted : {V : Type 0} → Option (Tip V) → ℕ → ℕ → ℕ → (ℕ → ℕ → ℕ → Type 0) → Type 0
Rooted None w a b f = Unit {0}
Rooted (Some t) w a b f = (a ≤ t.node.place) × (t.node.place < b) × f (t.node.place + 1) (b - w) t.left × f (max (t.node.place + 1) (b - w)) b t.right

-- the index i heads a tree of the places in [a, b)
abbrev pub Tree : {V : Type 0} → ℕ → List (Tip V) → ℕ → ℕ → ℕ → Type 0
Tree zero ts a b i = slice_get ts i ≡ None
Tree (suc n) ts a b i = Rooted (slice_get ts i) (width n) a b (Tree n ts)

-- a node, if there is one, has a place in [a, b)
abbrev pub Within : {V : Type 0} → ℕ → ℕ → Option (Tip V) → Type 0
Within a b None = Unit {0}
Within a b (Some t) = (a ≤ t.node.place) × (t.node.place < b)

-- there is a node, with a place in [a, b)
abbrev pub Inside : {V : Type 0} → ℕ → ℕ → Option (Tip V) → Type 0
Inside a b None = ⊥
Inside a b (Some t) = (a ≤ t.node.place) × (t.node.place < b)

-- a node, if there is one, has no place in [a, b)
abbrev pub Apart : {V : Type 0} → ℕ → ℕ → Option (Tip V) → Type 0
Apart a b None = Unit {0}
Apart a b (Some t) = a ≤ t.node.place → t.node.place < b → ⊥

-- there is a node, with a place at or past b
abbrev pub Above : {V : Type 0} → ℕ → Option (Tip V) → Type 0
Above b None = ⊥
Above b (Some t) = b ≤ t.node.place
