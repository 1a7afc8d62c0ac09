use Rattle.std.proofs.Common.{sym, arith}
use Rattle.std.proofs.lemmas.Option.{slice_get_within}
use Rattle.sparse.specs.Listing.{behind}
use Rattle.sparse.specs.Trees.{listed}
use Rattle.sparse.proofs.Halves.{stands}
use Rattle.sparse.proofs.Cuts.{Pruned, alone_in, risen_in}
use Rattle.sparse.proofs.prune.+unroot.Goals as goal

pub returns-in_default : goal.returns-in_default
returns-in_default g t c =
    let q = c.args.part in
    let ts = c.args.tips.now in
    let d = alone_in c.lower-side.result q.level ts c.args.at q.low q.end c.child-child.result c.args.here c.args.spent c.requires.here c.requires.tree c.child-child.ensures c.lower-side.ensures (sym c.in_default.ensures) in
    rw c.place_at.ensures record { list = d.list; tree = d.tree; spent = d.spent; inside = d.inside; frame = d.frame }

pub half-half-requires : goal.half-half-requires
half-half-requires g t c =
    stands c.args.part c.args.tips.now c.args.at c.args.here c.requires.here c.requires.tree

pub place_at-requires-2 : goal.place_at-requires-2
place_at-requires-2 g t c = let l = slice_get_within c.args.tips.now c.args.at c.args.here c.requires.here in omega arith

pub returns : goal.returns
returns g t c =
    let q = c.args.part in
    let h = c.half-half.result in
    let ts = c.args.tips.now in
    let us = c.unroot-cut.new.tips in
    let cut = c.unroot-cut.result in
    let y = c.unroot-cut.ensures in
    let l = slice_get_within ts c.args.at c.args.here c.requires.here in
    let below : Pruned h.level ts us cut.root cut.free h.low h.end c.args.spent (behind (listed h.level ts c.child-child.result)) =
    record { list = y.list; tree = y.tree; spent = y.spent; inside = y.inside; frame = y.frame } in
    let d = risen_in c.lower-side.result q h ts us c.args.at c.child-child.result cut.root cut.free c.args.here c.in-Some.next c.args.spent c.half-half.ensures c.requires.here c.requires.tree (omega arith)
    c.child-child.ensures c.lower-side.ensures (sym c.in-Some.ensures) below in
    rw (c.place_at-2.ensures, c.with.ensures) record { list = d.list; tree = d.tree; spent = d.spent; inside = d.inside; frame = d.frame }
