use Rattle.std.proofs.Common.{refl}
use Rattle.std.proofs.lemmas.Result.{err_from_is_err_and}
use Rattle.save_stack.specs.Meanings.{stack_of}
use Rattle.engine.specs.Acts.{given, assign_checks}
use Rattle.engine.specs.Faults.{first_of}
use Rattle.engine.specs.Scopes.{is_global}
use Rattle.engine.specs.Tables.{table_of}
use Rattle.engine.proofs.Verdicts.{allowed, assign_refused, assign_done}
use Rattle.engine.proofs.assign.assign.Goals as goal

pub returns-in_err-old : goal.returns-in_err-old
returns-in_err-old g c =
    let m = g.V.Value.meaning c.args.pool.now in
    let n = c.args.state.now.nesting in
    let q = stack_of c.args.state.now.pending in
    let t = table_of (g.S.Store.model c.args.store.now) m n (stack_of c.args.saves.now) q in
    let x = err_from_is_err_and c.from_residual.result c.from_residual.ensures.1 in
    let r = assign_refused g.V.Value.ops (is_global c.args.scope) t c.args.place (given c.args.value) n c.of_value-demand.result c.of_value-demand.ensures (c.in_err-old.ensures m q) in
    rw (x.1, x.2) (record { answer = r.0; table = r.1 })

pub returns : goal.returns
returns g c =
    let k = g.V.Value.ops in
    let m = g.V.Value.meaning c.args.pool.now in
    let s = g.S.Store.model c.args.store.now in
    let n = c.args.state.now.nesting in
    let q = stack_of c.args.state.now.pending in
    let t = table_of s m n (stack_of c.args.saves.now) q in
    let l = is_global c.args.scope in
    let d = c.of_value-demand.result in
    let a = allowed (s.cells c.args.place) (tt {0}) n (first_of (assign_checks k d l t c.args.place)) (c.in_ok-old.ensures m q) in
    let r = assign_done k l t c.args.place (given c.args.value) n d c.of_value-demand.ensures refl a.2 (c.put_in.ensures a.0 q) in
    record { answer = r.0; table = r.1 }
