use Rattle.std.proofs.Common.{◌≡◌, ◌≤◌, take}
use Rattle.stores.specs.Cells.{is_blank}
use Rattle.stores.specs.Flats.{count}
use Rattle.stores.proofs.flat.ops.FlatStore.spare.Given as goal

abbrev pub invariant-loop-cell : goal.invariant-loop-cell
invariant-loop-cell g l =
    (l.blanks ≤ l.cell-index) × (l.blanks ≡ count (is_blank g.V.Value.ops.is_zero) (take l.cell-index l.self.cells.now))
