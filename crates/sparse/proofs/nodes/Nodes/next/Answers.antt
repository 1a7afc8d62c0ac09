use Rattle.std.proofs.Common.{◌∙◌}
use Rattle.sparse.specs.Trees.{listed}
use Rattle.sparse.specs.Listing.{first_from}
use Rattle.sparse.specs.Held.{held}
use Rattle.sparse.proofs.Chains.{nodes_tree}
use Rattle.sparse.proofs.nodes.Nodes.next.Goals as goal

pub first_from-requires : goal.first_from-requires
first_from-requires g c = rw c.deref.ensures.value (nodes_tree c.args.self.now c.whole.result c.whole.ensures)

pub returns : goal.returns
unfolding held
returns g c =
    let s = c.args.self.now in
    c.first_from.ensures ∙ (λ i. first_from c.args.place (listed (c.whole.ensures.level i) (c.deref.ensures.value i) s.root))
