use Rattle.std.proofs.Common.{◌≡◌, ℕ, true, not, [], ap, ◌∙◌}
use Rattle.std.proofs.lemmas.Result.{err_from_is_err_and}
use Rattle.std.proofs.lemmas.Bool.{false≢true}
use Rattle.values.specs.Readings.{tokens, cost}
use Rattle.save_stack.specs.Meanings.{stack_of}
use Rattle.engine.specs.Acts.{fresh, chosen, assign_checks}
use Rattle.engine.specs.Faults.{first_of}
use Rattle.engine.specs.Scopes.{is_global}
use Rattle.engine.specs.declared.demand.Demand.{Demand}
use Rattle.engine.specs.Tables.{table_of}
use Rattle.engine.proofs.Verdicts.{allowed, assign_refused, assign_done, clear, enough, remade}
use Rattle.engine.proofs.assign.assign_list.Goals as goal

pub returns-in_err-old : goal.returns-in_err-old
returns-in_err-old g c =
    let m = g.V.Value.meaning c.args.pool.now in
    let n = c.args.state.now.nesting in
    let q = stack_of c.args.state.now.pending in
    let t = table_of (g.S.Store.model c.args.store.now) m n (stack_of c.args.saves.now) q in
    let x = err_from_is_err_and c.from_residual.result c.from_residual.ensures.1 in
    let r = λ (b : ℕ). assign_refused g.V.Value.ops (is_global c.args.scope) t c.args.place (fresh c.args.list.now b) n c.of_list-demand.result (c.of_list-demand.ensures b) (c.in_err-old.ensures m q) in
    rw (x.1, x.2) (record { answer = λ b. (r b).0; table = (0, λ e. absurd (false≢true e), (r 0).1) })

pub returns-in_default : goal.returns-in_default
returns-in_default g c =
    let k = g.V.Value.ops in
    let m = g.V.Value.meaning c.args.pool.now in
    let s = g.S.Store.model c.args.store.now in
    let n = c.args.state.now.nesting in
    let q = stack_of c.args.state.now.pending in
    let d = c.of_list-demand.result in
    let list = assign_checks k d (is_global c.args.scope) (table_of s m n (stack_of c.args.saves.now) q) c.args.place in
    let a = allowed (s.cells c.args.place) (tt {0}) n (first_of list) (c.in_ok-old.ensures m q) in
    absurd (enough (k.free m) (cost (tokens c.args.list.now)) d.affordable (ap (λ (z : Demand). z.affordable) (c.of_list-demand.ensures 0)) (clear list a.2).1.1.1.1.0 c.in_default.ensures.1)

pub returns : goal.returns
returns g c =
    let k = g.V.Value.ops in
    let m = g.V.Value.meaning c.args.pool.now in
    let s = g.S.Store.model c.args.store.now in
    let e = stack_of c.args.saves.now in
    let n = c.args.state.now.nesting in
    let q = stack_of c.args.state.now.pending in
    let p = c.args.place in
    let l = is_global c.args.scope in
    let ts = c.args.list.now in
    let t = table_of s m n e q in
    let w = c.in-Some.ensures in
    let a = allowed (s.cells p) (tt {0}) n (first_of (assign_checks k c.of_list-demand.result l t p)) (c.in_ok-old.ensures m q) in
    let new : chosen k (fresh ts w.at) m ≡ true = ap not w.absent in
    let done = c.put_in.ensures a.0 q ∙ remade k l s m (g.V.Value.meaning c.make_list.new.pool) n e q p w.at ts c.in-Some.value w.value w.pool in
    let r = assign_done k l t p (fresh ts w.at) n c.of_list-demand.result (c.of_list-demand.ensures w.at) new a.2 done in
    record { answer = λ b. r.0; table = (w.at, λ _. w.absent, r.1) }
