use Rattle.std.proofs.Common.{◌<◌, ◌≤◌, replicate, ap, ◌∙◌, arith}
use Rattle.output.specs.Text.{Out, told}
use Rattle.output.specs.Writers.{out_of}
use Rattle.save_stack.specs.Meanings.{stack_of}
use Rattle.engine.specs.Acts.{drops, unwound_to}
use Rattle.engine.specs.Tables.{table_of}
use Rattle.engine.specs.Traces.{all_lines}
use Rattle.engine.proofs.Unwinds.{count_turn, level_is, level_falls, table_turn, lines_turn}
use Rattle.engine.proofs.close.unwind.Goals as goal

pub loop-state-smaller : goal.loop-state-smaller
loop-state-smaller g c =
    let v = c.loop-state in
    let w = c.pop_group.new in
    let t = table_of (g.S.Store.model v.store) (g.V.Value.meaning v.pool) v.state.nesting (stack_of v.saves) (stack_of v.state.pending) in
    let u = table_of (g.S.Store.model w.store) (g.V.Value.meaning w.pool) w.state.nesting (stack_of w.saves) (stack_of w.state.pending) in
    level_falls g.V.Value.ops t u c.args.level (omega arith) (omega arith) c.pop_group.ensures.table

pub loop-state-preserved : goal.loop-state-preserved
loop-state-preserved g c =
    let k = g.V.Value.ops in
    let v = c.loop-state in
    let w = c.pop_group.new in
    let t = table_of (g.S.Store.model v.store) (g.V.Value.meaning v.pool) v.state.nesting (stack_of v.saves) (stack_of v.state.pending) in
    let u = table_of (g.S.Store.model w.store) (g.V.Value.meaning w.pool) w.state.nesting (stack_of w.saves) (stack_of w.state.pending) in
    let l = c.args.level in
    let h : 1 < t.level = omega arith in
    let i : l ≤ t.level = omega arith in
    let e = c.pop_group.ensures.table in
    let n = count_turn k t u l h i e in
    let d = level_is k t u l h i e in
    let f = level_falls k t u l h i e in (
      omega arith,
      omega arith,
      table_turn k t u l h i e ∙ v.invariant.2,
      ap (λ (o : Out). told o (all_lines k (replicate (unwound_to l u.level) drops) u)) c.pop_group.ensures.traced
          ∙ lines_turn k t u l h i e (out_of v.state.trace v.out) ∙ v.invariant.3,
    )
