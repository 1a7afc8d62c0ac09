use Rattle.std.proofs.Common.{true, false, refl, ap, ◌∙◌, arith}
use Rattle.sparse.specs.Held.{held}
use Rattle.sparse.specs.Listing.{all_filled}
use Rattle.sparse.proofs.Fills.{found_filled, del_filled, over_filled, clash}
use Rattle.sparse.proofs.Scans.{held_asc}
use Rattle.sparse.proofs.Writes.{some_left, refilled, blanked}
use Rattle.sparse.proofs.sparse.Sparse.refill.Goals as goal

pub overflow_sub-self : goal.overflow_sub-self
overflow_sub-self g c =
    let s = c.args.self.now in
    some_left g.V.Value.ops g.met.V.Value.lawful s.nodes.reach s.spare c.args.place (held s.nodes) c.args.cell c.args.old c.requires.old
    c.if-was_blank.ensures c.requires.room c.if-is_blank.ensures

pub returns-then-not-was_blank-clause-store : goal.returns-then-not-was_blank-clause-store
returns-then-not-was_blank-clause-store g c =
    let s = c.args.self.now in
    blanked g.V.Value.ops g.met.V.Value.lawful s.nodes.reach s.spare c.args.place (held s.nodes) c.args.cell _ _ _ c.args.old false
    (held_asc s.nodes) c.requires.old c.if-not-was_blank.ensures c.if-is_blank.ensures c.take.ensures.reach c.take.ensures.list refl

pub returns-else-not-was_blank-clause-store : goal.returns-else-not-was_blank-clause-store
returns-else-not-was_blank-clause-store g c =
    let s = c.args.self.now in
    blanked g.V.Value.ops g.met.V.Value.lawful s.nodes.reach s.spare c.args.place (held s.nodes) c.args.cell _ _ _ c.args.old true
    (held_asc s.nodes) c.requires.old c.if-not-was_blank.ensures c.if-is_blank.ensures c.take.ensures.reach c.take.ensures.list refl

pub returns-then-was_blank-clause-store : goal.returns-then-was_blank-clause-store
returns-then-was_blank-clause-store g c =
    let s = c.args.self.now in
    refilled g.V.Value.ops g.met.V.Value.lawful s.nodes.reach s.spare c.args.place (held s.nodes) c.args.cell _ _ _ c.args.old true
    c.requires.old c.if-was_blank.ensures c.if-is_blank.ensures c.set.ensures.reach c.set.ensures.list refl

pub returns-else-was_blank-clause-store : goal.returns-else-was_blank-clause-store
returns-else-was_blank-clause-store g c =
    let s = c.args.self.now in
    refilled g.V.Value.ops g.met.V.Value.lawful s.nodes.reach s.spare c.args.place (held s.nodes) c.args.cell _ _ _ c.args.old false
    c.requires.old c.if-was_blank.ensures c.if-is_blank.ensures c.set.ensures.reach c.set.ensures.list refl

-- a store that is exact has no node that held a blank cell
pub returns-then-not-was_blank-clause-exact : goal.returns-then-not-was_blank-clause-exact
returns-then-not-was_blank-clause-exact g c e =
    let s = c.args.self.now in
    let z = g.V.Value.ops.is_zero in
    let l = c.take.ensures.loose in
    let q = e.1 in
    (ap (all_filled z) c.take.ensures.list ∙ del_filled z c.args.place (held s.nodes) e.0, omega arith)

pub returns-else-not-was_blank-clause-exact : goal.returns-else-not-was_blank-clause-exact
returns-else-not-was_blank-clause-exact g c e =
    clash (found_filled g.V.Value.ops.is_zero c.args.place (held c.args.self.now.nodes) c.args.old e.0 c.requires.old) c.if-not-was_blank.ensures

pub returns-then-was_blank-clause-exact : goal.returns-then-was_blank-clause-exact
returns-then-was_blank-clause-exact g c e =
    clash (found_filled g.V.Value.ops.is_zero c.args.place (held c.args.self.now.nodes) c.args.old e.0 c.requires.old) c.if-was_blank.ensures

pub returns-else-was_blank-clause-exact : goal.returns-else-was_blank-clause-exact
returns-else-was_blank-clause-exact g c e =
    let s = c.args.self.now in
    let z = g.V.Value.ops.is_zero in
    let l = c.set.ensures.loose in
    let q = e.1 in
    (ap (all_filled z) c.set.ensures.list ∙ over_filled z c.args.place c.args.cell (held s.nodes) e.0 c.if-is_blank.ensures, omega arith)
