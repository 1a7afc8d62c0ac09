use Rattle.std.proofs.Common.{◌∙◌}
use Rattle.sparse.specs.Trees.{listed}
use Rattle.sparse.specs.Listing.{found}
use Rattle.sparse.specs.Held.{held}
use Rattle.sparse.proofs.Chains.{nodes_tree}
use Rattle.sparse.proofs.nodes.Nodes.get.Goals as goal

pub find-requires : goal.find-requires
find-requires g c = rw c.deref.ensures.value (nodes_tree c.args.self.now c.whole.result c.whole.ensures)

pub returns : goal.returns
unfolding held
returns g c =
    let s = c.args.self.now in
    c.find.ensures ∙ (λ i. found c.args.place (listed (c.whole.ensures.level i) (c.deref.ensures.value i) s.root))
