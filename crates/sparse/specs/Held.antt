-- What a store's nodes hold.
use Rattle.std.specs.Prelude.{List, vec_items}
use Rattle.sparse.specs.Trees.{listed}
use Rattle.sparse.specs.declared.node.Node.{Node}
use Rattle.sparse.specs.declared.nodes.Nodes.{Nodes}

-- the nodes in use, in the order of their places
unfoldable pub held : {V : Type 0} → Nodes V → List (Node V)
held n = listed 18 (vec_items n.tips) n.root
