use Rattle.std.proofs.Common.{true, false, ◌∙◌, arith}
use Rattle.stores.proofs.Rows.{row_turn}
use Rattle.stores.proofs.flat.ops.FlatStore.next_filled.Goals as goal

pub returns-then-not-is_blank-clause-value : goal.returns-then-not-is_blank-clause-value
returns-then-not-is_blank-clause-value g c =
    row_turn g.V.Value.ops c.args.self.now.cells.now c.loop-place.place c.index-self-place.result false (omega arith) c.if-not-is_blank.ensures
    ∙ c.loop-place.invariant

pub loop-place-preserved : goal.loop-place-preserved
loop-place-preserved g c =
    row_turn g.V.Value.ops c.args.self.now.cells.now c.loop-place.place c.index-self-place.result true (omega arith) c.if-not-is_blank.ensures
    ∙ c.loop-place.invariant
