use Rattle.std.proofs.Common.{rules}
use Rattle.stores.specs.Cells.{cell}
use Rattle.stores.proofs.Rows.{row_writes}
use Rattle.stores.proofs.flat.ops.FlatStore.write.Goals as goal

pub returns-clause-after : goal.returns-clause-after
returns-clause-after g c = row_writes g.V.Value.ops c.args.self.now.cells.now c.args.place (search rules) (cell c.args.value c.args.level)
