use Rattle.std.proofs.Common.{◌≡◌, ◌+◌, ◌≤◌, replicate}
use Rattle.output.specs.Text.{told}
use Rattle.output.specs.Writers.{out_of}
use Rattle.save_stack.specs.Meanings.{stack_of}
use Rattle.engine.specs.Acts.{drops, after, unwound_to}
use Rattle.engine.specs.Tables.{table_of}
use Rattle.engine.specs.Traces.{all_lines}
use Rattle.engine.proofs.close.unwind.Given as goal

abbrev pub invariant-loop-state : goal.invariant-loop-state
invariant-loop-state g l =
    (l.state.nesting.level ≤ l.from) × (unwound_to l.level l.from + l.state.nesting.level ≡ unwound_to l.level l.state.nesting.level + l.from)
    × (after g.V.Value.ops (replicate (unwound_to l.level l.state.nesting.level) drops) (table_of (g.S.Store.model l.store) (g.V.Value.meaning l.pool) l.state.nesting (stack_of l.saves) (stack_of l.state.pending))
    ≡ after g.V.Value.ops (replicate (unwound_to l.level l.initial.state.nesting.level) drops) (table_of (g.S.Store.model l.initial.store) (g.V.Value.meaning l.initial.pool) l.initial.state.nesting (stack_of l.initial.saves) (stack_of l.initial.state.pending)))
    × (told (out_of l.state.trace l.out) (all_lines g.V.Value.ops (replicate (unwound_to l.level l.state.nesting.level) drops) (table_of (g.S.Store.model l.store) (g.V.Value.meaning l.pool) l.state.nesting (stack_of l.saves) (stack_of l.state.pending)))
    ≡ told (out_of l.initial.state.trace l.initial.out) (all_lines g.V.Value.ops (replicate (unwound_to l.level l.initial.state.nesting.level) drops) (table_of (g.S.Store.model l.initial.store) (g.V.Value.meaning l.initial.pool) l.initial.state.nesting (stack_of l.initial.saves) (stack_of l.initial.state.pending))))

abbrev pub decreases-loop-state : goal.decreases-loop-state
decreases-loop-state g l = l.state.nesting.level
