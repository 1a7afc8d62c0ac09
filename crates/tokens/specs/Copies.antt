-- Copying a list to the front of words.
use Rattle.std.specs.Prelude.{ℕ, Bool, cond, List, ◌++◌, length, drop, nat_le}

-- whether a list fits into words
abbrev pub fitted : List ℕ → List ℕ → Bool
fitted ts ws = nat_le (length ts) (length ws)

-- the words with the list at their front, or as they were if it does not fit
abbrev pub copied : List ℕ → List ℕ → List ℕ
copied ts ws = cond (fitted ts ws) (ts ++ drop (length ts) ws) ws
