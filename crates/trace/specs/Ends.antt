-- The end of a line.
use Rattle.std.specs.Prelude.{ℕ, ◌+◌, min, Bool, true, false}
use Rattle.tokens.specs.Limits.{top_lost}
use Rattle.output.specs.declared.writer.Writer.{Writer}

-- the writer as the end of a line leaves it: unless the line was completed, the mark is at its start, and it is counted as lost
abbrev pub ended : Bool → ℕ → Writer → Writer
ended true start w = w
ended false start w = record { mark = start; lost = min (w.lost + 1) top_lost }
