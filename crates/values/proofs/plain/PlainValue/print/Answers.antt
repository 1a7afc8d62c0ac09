use Rattle.std.proofs.Common.{arith, w32, SFits, rules}
use Rattle.std.proofs.lemmas.Int.{ints, to_z-of_z}
use Rattle.output.proofs.Pieces.{begun, ends, answered}
use Rattle.output.proofs.Signs.{signed_some}
use Rattle.values.proofs.plain.PlainValue.print.Goals as goal

pub returns : goal.returns
returns c =
    let z = c.args.self.now.number in
    let f : SFits w32 z = search rules in
    let s = simp to_z-of_z at c.number-whole.ensures in
    answered c.new-writer.ensures c.into_put.ensures.size c.into_put.ensures.whole (ends (signed_some z (omega (arith, ints))) (begun c.write_name.ensures) s)
