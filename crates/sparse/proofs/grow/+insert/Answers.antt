use Rattle.std.proofs.Common.{sym, arith}
use Rattle.std.proofs.lemmas.Option.{slice_get_within}
use Rattle.sparse.proofs.Grown.{leaf, settled, asks, grown}
use Rattle.sparse.proofs.grow.+insert.Goals as goal

pub returns-in_default : goal.returns-in_default
returns-in_default g t c =
    let q = c.args.part in
    let ts = c.args.tips.now in
    let w = q.wide in
    let f = q.fits in
    let d = leaf q.level ts c.args.at q.low q.end c.args.free c.args.node c.requires.place.0 c.requires.place.1 (omega arith) (sym c.in_default.ensures) c.requires.free in
    rw c.place_at.ensures record { list = d.list; tree = d.tree; frame = d.frame }

pub place_at-requires-2 : goal.place_at-requires-2
place_at-requires-2 g t c = slice_get_within c.args.tips.now c.args.at c.in-Some.here (sym c.in-Some.ensures)

pub half-half-requires : goal.half-half-requires
half-half-requires g t c =
    let q = c.args.part in
    let st = settled q.level c.args.tips.now c.args.at q.low q.end c.args.node c.in-Some.here c.in_order.result.0 c.in_order.result.1 c.in_order.ensures.first c.in_order.ensures.second
    (sym c.in-Some.ensures) c.requires.tree c.requires.place.0 c.requires.place.1 c.requires.absent in
    let before = st.before in let end = st.end in (st.low, omega arith)

pub insert-child-requires : goal.insert-child-requires
insert-child-requires g t c κs within =
    let up = c.half-half.ensures.up in
    let r = c.requires in
    let a = asks c.side-side.result c.args.part c.half-half.result c.args.tips.now c.args.at c.args.free c.child.result c.args.node c.in-Some.here c.in_order.result.0 c.in_order.result.1
    c.half-half.ensures c.in_order.ensures.first c.in_order.ensures.second (sym c.in-Some.ensures) r.tree r.place.0 r.place.1 r.absent r.free c.child.ensures c.side-side.ensures in
    rw c.place_at-2.ensures (omega arith, (within, (a.tree, (a.place, (a.absent, a.spare)))))

pub place_at-requires-3 : goal.place_at-requires-3
place_at-requires-3 g t c =
    let l = slice_get_within c.args.tips.now c.args.at c.in-Some.here (sym c.in-Some.ensures) in
    omega arith

pub returns : goal.returns
returns g t c =
    let q = c.args.part in
    let ts = c.args.tips.now in
    let r = c.requires in
    let l = slice_get_within ts c.args.at c.in-Some.here (sym c.in-Some.ensures) in
    let y = rw c.place_at-2.ensures at c.insert-child.ensures in
    let d = grown c.side-side.result q c.half-half.result ts c.args.at c.args.free c.child.result c.args.node c.in-Some.here c.in_order.result.0 c.in_order.result.1
    c.half-half.ensures c.in_order.ensures.first c.in_order.ensures.second (sym c.in-Some.ensures) r.tree r.place.0 r.place.1 r.absent r.free c.child.ensures c.side-side.ensures
    c.insert-child.new.tips c.insert-child.result (omega arith) y.list y.tree y.frame in
    rw (c.place_at-3.ensures, c.with.ensures) record { list = d.list; tree = d.tree; frame = d.frame }
