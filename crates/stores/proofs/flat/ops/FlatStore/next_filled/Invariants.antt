use Rattle.std.proofs.Common.{◌≡◌}
use Rattle.stores.specs.Stores.{next_filled}
use Rattle.stores.specs.Flats.{row}
use Rattle.stores.proofs.flat.ops.FlatStore.next_filled.Given as goal

abbrev pub invariant-loop-place : goal.invariant-loop-place
invariant-loop-place g l =
    let k = g.V.Value.ops in
    let cells = row k l.self.cells.now in
    next_filled k.is_zero cells l.place ≡ next_filled k.is_zero cells l.from
