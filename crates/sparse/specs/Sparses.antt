-- What a sparse store means.
use Rattle.std.specs.Prelude.{◌≡◌, ℕ, true, List}
use Rattle.values.specs.Ops.{Ops}
use Rattle.stores.specs.Cells.{cell}
use Rattle.stores.specs.Stores.{StoreModel}
use Rattle.sparse.specs.Listing.{look, all_filled}
use Rattle.sparse.specs.Held.{held}
use Rattle.sparse.specs.declared.node.Node.{Node}
use Rattle.sparse.specs.declared.sparse.Sparse.{Sparse}

-- nodes as a store: a place that has none is blank
abbrev pub noded : {V M : Type 0} → Ops V M → ℕ → List (Node V) → ℕ → StoreModel V
noded k r xs s = record { reach = r; cells = look (cell k.zero 1) xs; spare = s }

-- the meaning of a sparse store
abbrev pub sparse_store : {V M : Type 0} → Ops V M → Sparse V → StoreModel V
sparse_store k s = noded k s.nodes.reach (held s.nodes) s.spare

-- a store of n blank cells, of which m can be filled
abbrev pub blank_store : {V M : Type 0} → Ops V M → ℕ → ℕ → StoreModel V
blank_store k n m = record { reach = n; cells = λ q. cell k.zero 1; spare = m }

-- a store has one node for each filled cell: none holds a blank one, and as many cells are spare as nodes are free
abbrev pub Exact : {V M : Type 0} → Ops V M → Sparse V → Type 0
Exact k s = (all_filled k.is_zero (held s.nodes) ≡ true) × (s.spare ≡ s.nodes.loose)
