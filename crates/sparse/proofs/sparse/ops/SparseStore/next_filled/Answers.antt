use Rattle.std.proofs.Common.{sym, ◌∙◌, arith}
use Rattle.sparse.specs.Held.{held}
use Rattle.sparse.proofs.Scans.{held_asc, no_next, next_near, next_here, next_on}
use Rattle.sparse.proofs.sparse.ops.SparseStore.next_filled.Goals as goal

pub returns-then-not-is_blank : goal.returns-then-not-is_blank
returns-then-not-is_blank g c =
    let s = c.args.self.now in
    let xs = held s.nodes in
    let x = c.in-Some.node in
    let h = sym c.in-Some.ensures in
    let n = next_near g.V.Value.ops g.met.V.Value.lawful s.nodes.reach s.spare c.loop-node.at xs (held_asc s.nodes) x h in
    let r = s.nodes.near in
    record {
      value = next_here g.V.Value.ops g.met.V.Value.lawful s.nodes.reach s.spare c.loop-node.at xs (held_asc s.nodes) x h c.if-not-is_blank.ensures ∙ c.loop-node.invariant.1;
      near = omega arith;
    }

pub overflow_add-at : goal.overflow_add-at
overflow_add-at g c =
    let s = c.args.self.now in
    let n = next_near g.V.Value.ops g.met.V.Value.lawful s.nodes.reach s.spare c.loop-node.at (held s.nodes) (held_asc s.nodes) c.in-Some.node (sym c.in-Some.ensures) in
    let r = s.nodes.near in
    omega arith

pub loop-node-smaller : goal.loop-node-smaller
loop-node-smaller g c =
    let s = c.args.self.now in
    let n = next_near g.V.Value.ops g.met.V.Value.lawful s.nodes.reach s.spare c.loop-node.at (held s.nodes) (held_asc s.nodes) c.in-Some.node (sym c.in-Some.ensures) in
    omega arith

pub loop-node-preserved : goal.loop-node-preserved
loop-node-preserved g c =
    let s = c.args.self.now in
    let xs = held s.nodes in
    let x = c.in-Some.node in
    let h = sym c.in-Some.ensures in
    let n = next_near g.V.Value.ops g.met.V.Value.lawful s.nodes.reach s.spare c.loop-node.at xs (held_asc s.nodes) x h in
    let r = s.nodes.near in (
      omega arith,
      next_on g.V.Value.ops g.met.V.Value.lawful s.nodes.reach s.spare c.loop-node.at xs (held_asc s.nodes) x h c.if-not-is_blank.ensures ∙ c.loop-node.invariant.1,
    )

pub returns : goal.returns
returns g c =
    let s = c.args.self.now in
    record {
      value = sym (no_next g.V.Value.ops g.met.V.Value.lawful s.nodes.reach s.spare c.loop-node.at (held s.nodes) (held_asc s.nodes) (sym c.in_default.ensures)) ∙ c.loop-node.invariant.1;
      near = tt;
    }
