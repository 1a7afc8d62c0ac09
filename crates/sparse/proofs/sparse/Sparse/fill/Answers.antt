use Rattle.std.proofs.Common.{refl, ap, ◌∙◌, arith}
use Rattle.sparse.specs.Held.{held}
use Rattle.sparse.specs.Listing.{node, all_filled}
use Rattle.sparse.proofs.Fills.{ins_filled}
use Rattle.sparse.proofs.Looks.{absent_none}
use Rattle.sparse.proofs.Writes.{none_left, filled, bared}
use Rattle.sparse.proofs.sparse.Sparse.fill.Goals as goal

pub overflow_sub-self : goal.overflow_sub-self
overflow_sub-self g c =
    let s = c.args.self.now in
    none_left g.V.Value.ops g.met.V.Value.lawful s.nodes.reach s.spare c.args.place (held s.nodes) c.args.cell c.requires.none c.requires.room c.if-not-is_blank.ensures

pub put-requires : goal.put-requires
put-requires g c =
    let s = c.args.self.now in
    let h = none_left g.V.Value.ops g.met.V.Value.lawful s.nodes.reach s.spare c.args.place (held s.nodes) c.args.cell c.requires.none c.requires.room c.if-not-is_blank.ensures in
    record { reach = c.requires.near; loose = omega arith; absent = absent_none c.args.place (held s.nodes) c.requires.none }

pub returns-then-not-is_blank-clause-store : goal.returns-then-not-is_blank-clause-store
returns-then-not-is_blank-clause-store g c =
    let s = c.args.self.now in
    filled g.V.Value.ops g.met.V.Value.lawful s.nodes.reach s.spare c.args.place (held s.nodes) c.args.cell _ _ _
    c.requires.none c.if-not-is_blank.ensures c.put.ensures.reach c.put.ensures.list refl

pub returns-else-not-is_blank-clause-store : goal.returns-else-not-is_blank-clause-store
returns-else-not-is_blank-clause-store g c =
    let s = c.args.self.now in
    bared g.V.Value.ops g.met.V.Value.lawful s.nodes.reach s.spare c.args.place (held s.nodes) c.args.cell c.requires.none c.if-not-is_blank.ensures

pub returns-then-not-is_blank-clause-exact : goal.returns-then-not-is_blank-clause-exact
returns-then-not-is_blank-clause-exact g c e =
    let s = c.args.self.now in
    let z = g.V.Value.ops.is_zero in
    let l = c.put.ensures.loose in
    let q = e.1 in
    (ap (all_filled z) c.put.ensures.list ∙ ins_filled z (node c.args.place c.args.cell) (held s.nodes) e.0 c.if-not-is_blank.ensures, omega arith)
