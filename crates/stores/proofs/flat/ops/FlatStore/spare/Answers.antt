use Rattle.std.proofs.Common.{sym, refl, ap, ◌∙◌, arith}
use Rattle.std.proofs.lemmas.List.{take_all}
use Rattle.std.proofs.lemmas.List.Sums.{count_by_more_yes, count_by_more_no}
use Rattle.stores.specs.Cells.{is_blank}
use Rattle.stores.specs.Flats.{count}
use Rattle.stores.proofs.flat.ops.FlatStore.spare.Goals as goal
use Rattle.stores.proofs.flat.ops.FlatStore.spare.Goals.{then-is_blank, else-is_blank}

pub loop-cell-init : goal.loop-cell-init
loop-cell-init g c = (omega arith, refl)

pub overflow_add-blanks : goal.overflow_add-blanks
overflow_add-blanks g c = omega (arith, c.args.self.now.near, c.loop-cell.invariant.0, c.loop-cell-test.true)

pub loop-cell-preserved : goal.loop-cell-preserved
loop-cell-preserved g c =
    let z = is_blank g.V.Value.ops.is_zero in
    let v = c.loop-cell in
    let here = ap z (sym c.cell-item.is) in
    elim c.if-is_blank.branch [
      | then-is_blank w ↦
          let more = count_by_more_yes z c.args.self.now.cells.now v.cell-index c.cell-item.result c.loop-cell-test.true (here ∙ sym w.if-is_blank.ensures) in
          (omega (arith, w.blanks-is, v.invariant.0), omega (arith, w.blanks-is, v.invariant.1, more))
      | else-is_blank w ↦
          let more = count_by_more_no z c.args.self.now.cells.now v.cell-index c.cell-item.result c.loop-cell-test.true (here ∙ sym w.if-is_blank.ensures) in
          (omega (arith, w.blanks-is, v.invariant.0), omega (arith, w.blanks-is, v.invariant.1, more))
    ]

pub returns : goal.returns
returns g c =
    let v = c.loop-cell in
    v.invariant.1 ∙ ap (count (is_blank g.V.Value.ops.is_zero)) (take_all v.cell-index c.args.self.now.cells.now (omega (arith, c.loop-cell-test.false)))
