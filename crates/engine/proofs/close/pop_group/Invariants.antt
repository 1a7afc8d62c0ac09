use Rattle.std.proofs.Common.{◌≡◌, length}
use Rattle.output.specs.Text.{told}
use Rattle.output.specs.Writers.{out_of}
use Rattle.save_stack.specs.Meanings.{stack_of}
use Rattle.engine.specs.Acts.{pops}
use Rattle.engine.specs.HeldTokens.{is_kept}
use Rattle.engine.specs.Tables.{table_of}
use Rattle.engine.specs.Traces.{pop_lines}
use Rattle.engine.proofs.close.pop_group.Given as goal

abbrev pub invariant-loop-entry : goal.invariant-loop-entry
invariant-loop-entry g l =
    (pops g.V.Value.ops (is_kept l.held) (stack_of l.saves).held (table_of (g.S.Store.model l.store) (g.V.Value.meaning l.pool) l.state.nesting (stack_of l.saves) (stack_of l.state.pending))
    ≡ pops g.V.Value.ops (is_kept l.held) (stack_of l.initial.saves).held (table_of (g.S.Store.model l.initial.store) (g.V.Value.meaning l.initial.pool) l.initial.state.nesting (stack_of l.initial.saves) (stack_of l.initial.state.pending)))
    × (told (out_of l.state.trace l.out) (pop_lines g.V.Value.ops (is_kept l.held) (stack_of l.saves).held (table_of (g.S.Store.model l.store) (g.V.Value.meaning l.pool) l.state.nesting (stack_of l.saves) (stack_of l.state.pending)))
    ≡ told (out_of l.initial.state.trace l.initial.out) (pop_lines g.V.Value.ops (is_kept l.held) (stack_of l.initial.saves).held (table_of (g.S.Store.model l.initial.store) (g.V.Value.meaning l.initial.pool) l.initial.state.nesting (stack_of l.initial.saves) (stack_of l.initial.state.pending))))

abbrev pub decreases-loop-entry : goal.decreases-loop-entry
decreases-loop-entry g l = length (stack_of l.saves).held
