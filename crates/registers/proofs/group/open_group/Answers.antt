use Rattle.std.proofs.Common.{ℕ, ◌+◌, Ok, ap, ◌∙◌}
use Rattle.std.proofs.lemmas.Result.{err_from_is_err_and}
use Rattle.stores.specs.Stores.{StoreModel}
use Rattle.save_stack.specs.Meanings.{stack_of}
use Rattle.engine.specs.Acts.{opens, cause_of}
use Rattle.engine.specs.Tables.{table_of}
use Rattle.engine.proofs.Verdicts.{allowed, refused}
use Rattle.registers.specs.Handles.{handle_of}
use Rattle.registers.proofs.group.open_group.Goals as goal

pub returns-in_err-level-clause-answer : goal.returns-in_err-level-clause-answer
returns-in_err-level-clause-answer g c = λ (s : StoreModel g.row.V.Denot) (m : g.V.Value.Meaning).
    let n = c.args.state.now.nesting in
    let t = table_of s m n (stack_of c.args.saves.now) (stack_of c.args.state.now.pending) in
    let x = err_from_is_err_and c.from_residual.result c.from_residual.ensures.1 in
    let why = cause_of g.V.Value.ops (opens (record { kind = c.args.kind; line = c.args.line })) t in
    rw (x.1, x.2) (refused (n.level + 1) (handle_of c.args.kind (n.level + 1)) n why (c.in_err-level.ensures.answer s m)).0

pub returns-clause-answer : goal.returns-clause-answer
returns-clause-answer g c = λ (s : StoreModel g.row.V.Denot) (m : g.V.Value.Meaning).
    let n = c.args.state.now.nesting in
    let t = table_of s m n (stack_of c.args.saves.now) (stack_of c.args.state.now.pending) in
    let a = allowed (n.level + 1) (handle_of c.args.kind (n.level + 1)) n (cause_of g.V.Value.ops (opens (record { kind = c.args.kind; line = c.args.line })) t) (c.in_ok-level.ensures.answer s m) in
    ap (λ (l : ℕ). Ok (handle_of c.args.kind l)) a.0 ∙ a.1
