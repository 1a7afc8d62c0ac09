use Rattle.std.proofs.Common.{lit<}
use Rattle.std.proofs.lemmas.Bool.{le-ltb}
use Rattle.output.proofs.Pieces.{reads, begun, on, ends}
use Rattle.mixed.proofs.text.write_token.Goals as goal

pub returns : goal.returns
returns c =
    let word = le-ltb c.args.code 256 c.if-code-lt-FIRST_WORD.false in
    rw word (ends (lit< tt) (on (begun c.text-2.ensures) (reads (rw word at c.word.ensures) c.text-3.ensures)) c.text-4.ensures)
