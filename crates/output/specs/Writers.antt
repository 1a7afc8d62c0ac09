-- A writer with the output that it is lent.
use Rattle.std.specs.Prelude.{ℕ, List}
use Rattle.output.specs.Text.{Out}
use Rattle.output.specs.declared.writer.Writer.{Writer}

-- the output as the writer has filled it
abbrev pub out_of : Writer → List ℕ → Out
out_of w bs = record { bytes = bs; mark = w.mark; lost = w.lost }

-- a writer at the start, with no line lost
abbrev pub fresh : Writer
fresh = record { mark = 0; lost = 0 }
