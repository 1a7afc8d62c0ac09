use Rattle.std.proofs.Common.{sym, arith}
use Rattle.std.proofs.lemmas.Fmt.{decimal_digit}
use Rattle.output.proofs.Pieces.{reads, nothing}
use Rattle.mixed.proofs.kind.write_zero.Goals as goal

pub returns-in-Count : goal.returns-in-Count
returns-in-Count c = rw c.in-Count.is (reads (sym (decimal_digit 0 (omega arith))) c.text.ensures)

pub returns-in-Toks : goal.returns-in-Toks
returns-in-Toks c = rw c.in-Toks.is (nothing _)
