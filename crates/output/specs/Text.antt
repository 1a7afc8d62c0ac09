-- What it is to write a text into memory that may be too small.
use Rattle.std.specs.Prelude.{◌≡◌, ℕ, ◌+◌, ◌-◌, min, Bool, cond, ◌&&◌, List, [], ◌∷◌, ◌++◌, length, take, drop, ◌==◌, nat_le}
use Rattle.tokens.specs.Limits.{top_lost}

-- a text laid over a room from its start: what fits of it, then what the room held past it
abbrev pub laid : List ℕ → List ℕ → List ℕ
laid [] room = room
laid (t ∷ ts) [] = []
laid (t ∷ ts) (r ∷ rs) = t ∷ laid ts rs

-- what a printer does with the room that it is handed, and what it answers
pub record Piece (text before after : List ℕ) (size : ℕ) (whole : Bool) : Type 0 where
  pub length_is : size ≡ min (length text) (length before)
  pub whole_is : whole ≡ nat_le (length text) (length before)
  pub laid_is : after ≡ laid text before

-- an output, its fill mark, and how many lines were lost
pub record Out : Type 0 where
  pub bytes : List ℕ
  pub mark : ℕ
  pub lost : ℕ

-- a text fits whole between the mark and the end
unfoldable pub fits : Out → List ℕ → Bool
fits o text = nat_le (length text) (length o.bytes - o.mark)

-- what fits of a text laid from the mark on, and the mark behind it
unfoldable pub during : Out → List ℕ → Out
during o text = record {
  bytes = take o.mark o.bytes ++ laid text (drop o.mark o.bytes);
  mark = o.mark + min (length text) (length o.bytes - o.mark);
  lost = o.lost;
}

-- a part of a line: what fits of its text is written, and the answer is whether it fitted whole
pub record Added (text : List ℕ) (before after : Out) (whole : Bool) : Type 0 where
  pub whole_is : whole ≡ fits before text
  pub wrote_is : after ≡ during before text

-- one more line lost: the mark stays
abbrev pub counted : Out → List ℕ → Out
counted o bs = record { bytes = bs; mark = o.mark; lost = min (o.lost + 1) top_lost }

-- whether a line will stand: no line was lost before it, and it fits whole
unfoldable pub stands : Out → List ℕ → Bool
stands o text = o.lost == 0 && fits o text

-- one line: written whole, or lost with what fits of it left past the mark; after a lost line nothing is written
unfoldable pub wrote : Out → List ℕ → Out
wrote o text =
    cond (o.lost == 0)
    (cond (fits o text) (during o text) (counted o (during o text).bytes))
    (counted o o.bytes)

-- one line after the other
abbrev pub told : Out → List (List ℕ) → Out
told o [] = o
told o (l ∷ ls) = told (wrote o l) ls
