use Rattle.std.proofs.Common.{◌≡◌, ◌-◌, ◌^◌, ◌<◌}
use Rattle.stores.specs.Stores.{next_filled}
use Rattle.sparse.specs.Sparses.{sparse_store}
use Rattle.sparse.proofs.sparse.ops.SparseStore.next_filled.Given as goal

abbrev pub invariant-loop-node : goal.invariant-loop-node
invariant-loop-node g l =
    (l.at < 2 ^ 32)
    × (next_filled g.V.Value.ops.is_zero (sparse_store g.V.Value.ops l.self) l.at ≡ next_filled g.V.Value.ops.is_zero (sparse_store g.V.Value.ops l.self) l.initial.at)

abbrev pub decreases-loop-node : goal.decreases-loop-node
decreases-loop-node g l = l.self.nodes.reach - l.at
