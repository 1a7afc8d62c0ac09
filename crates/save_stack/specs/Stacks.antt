-- What a stack means: what it holds, newest first, and how many more entries it takes.
use Rattle.std.specs.Prelude.{ℕ, ◌+◌, ◌-◌, Bool, cond, List, [], ◌∷◌, reverse, length, take, Some, None, Option, ◌==◌}

-- the meaning of a stack
pub record StackModel (E : Type 0) : Type 0 where
  pub held : List E
  pub room : ℕ

-- the front of a row as a stack
abbrev pub row_of : {E : Type 0} → ℕ → List E → StackModel E
row_of top xs = record { held = reverse (take top xs); room = length xs - top }

-- an empty stack
abbrev pub empty : {E : Type 0} → ℕ → StackModel E
empty n = record { held = []; room = n }

-- whether a stack takes no more
abbrev pub is_full : {E : Type 0} → StackModel E → Bool
is_full s = s.room == 0

-- one entry more, unless it is full
abbrev pub pushed : {E : Type 0} → StackModel E → E → StackModel E
pushed s e = cond (is_full s) s (record { held = e ∷ s.held; room = s.room - 1 })

-- the newest of a list
abbrev pub newest : {E : Type 0} → List E → Option E
newest [] = None
newest (e ∷ es) = Some e

-- the stack once the newest of what it holds is off
abbrev pub under : {E : Type 0} → StackModel E → List E → StackModel E
under s [] = s
under s (e ∷ es) = record { held = es; room = s.room + 1 }
