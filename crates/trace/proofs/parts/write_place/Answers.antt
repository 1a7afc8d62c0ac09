use Rattle.std.proofs.Common.{arith, eq-eqb, ne_eqb}
use Rattle.std.proofs.lemmas.Fmt.{decimal_nonempty}
use Rattle.output.proofs.Pieces.{reads, nothing, begun, ends}
use Rattle.trace.proofs.parts.write_place.Goals as goal

pub returns-then-line-eq0 : goal.returns-then-line-eq0
returns-then-line-eq0 c = reads (simp (eq-eqb c.args.line 0 c.if-line-eq0.true)) (nothing _)

pub returns : goal.returns
returns c =
    reads (simp (ne_eqb c.args.line 0 c.if-line-eq0.false))
    (ends (decimal_nonempty c.args.line (omega arith)) (begun c.text.ensures) c.number.ensures)
