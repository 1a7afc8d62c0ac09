use Rattle.std.proofs.Common.{rules}
use Rattle.save_stack.specs.Meanings.{stack_of}
use Rattle.engine.specs.Acts.{closes, cause_of}
use Rattle.engine.specs.Tables.{table_of}
use Rattle.registers.proofs.Closings.{handed_back}
use Rattle.registers.proofs.group.close_group.Goals as goal

pub returns-clause-answer : goal.returns-clause-answer
returns-clause-answer g c =
    let s = c.args.state.now in
    let h = c.args.handle in
    let t = table_of (g.S.Store.model c.args.store.now) (g.V.Value.meaning c.args.pool.now) s.nesting (stack_of c.args.saves.now) (stack_of s.pending) in
    handed_back h s.nesting (cause_of g.V.Value.ops (closes h.kind h.level) t) _ (λ f e k. search rules) c.close_group.ensures.answer c.map_err.ensures.cases
