use Rattle.stores.specs.Cells.{cell}
use Rattle.sparse.specs.Sparses.{sparse_store}
use Rattle.sparse.proofs.Writes.{accepted}
use Rattle.sparse.proofs.sparse.ops.SparseStore.write.Goals as goal

pub returns-in-Some-clause-after : goal.returns-in-Some-clause-after
returns-in-Some-clause-after g c =
    let k = g.V.Value.ops in
    (accepted k.is_zero (sparse_store k c.args.self.now) c.args.place (cell c.args.value c.args.level) _ _ c.in_ok-may_write.ensures c.is_blank.ensures c.refill.ensures.store).1

pub returns-in-None-clause-after : goal.returns-in-None-clause-after
returns-in-None-clause-after g c =
    let k = g.V.Value.ops in
    (accepted k.is_zero (sparse_store k c.args.self.now) c.args.place (cell c.args.value c.args.level) _ _ c.in_ok-may_write.ensures c.is_blank.ensures c.fill.ensures.store).1

pub returns-in-Some-clause-exact : goal.returns-in-Some-clause-exact
returns-in-Some-clause-exact g c = c.refill.ensures.exact

pub returns-in-None-clause-exact : goal.returns-in-None-clause-exact
returns-in-None-clause-exact g c = c.fill.ensures.exact
