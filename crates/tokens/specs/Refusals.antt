-- The refusals by their numbers, which are also their order.
use Rattle.std.specs.Prelude.{ℕ}
use Rattle.tokens.specs.declared.refusal.Refusal.{Refusal}
use Rattle.tokens.specs.declared.refusal.Refusal.TheVariants.{TextSize, StepsSpent, UnknownToken, EndsInside, Misplaced, OutOfBounds, NoPlace, OtherGroup, TooDeep, NoWords, NoEntry, NoNodes, NoSpare, NoLine}

-- the number of a refusal
abbrev pub number_of : Refusal → ℕ
number_of TextSize = 1
number_of StepsSpent = 2
number_of UnknownToken = 3
number_of EndsInside = 4
number_of Misplaced = 5
number_of OutOfBounds = 6
number_of NoPlace = 7
number_of OtherGroup = 8
number_of TooDeep = 9
number_of NoWords = 10
number_of NoEntry = 11
number_of NoNodes = 12
number_of NoSpare = 13
number_of NoLine = 14
