-- How readings print.
use Rattle.std.specs.Prelude.{ℕ, cond, List, [], ◌∷◌, ◌++◌, codes, nat_lt}
use Rattle.std.specs.List.{flat_map}
use Rattle.std.specs.Fmt.{signed_decimal}
use Rattle.tokens.specs.Codes.{first_word}
use Rattle.tokens.specs.Words.{word_text}
use Rattle.dimensions.specs.Dimensions.{dimension as dimension_text}
use Rattle.values.specs.Readings.{Reading, number, dimension, tokens}

-- a token: a byte prints as itself, a word with its backslash and one space after it
abbrev pub token_text : ℕ → List ℕ
token_text code = cond (nat_lt code first_word) (code ∷ []) (codes "\\" ++ word_text code ++ codes " ")

-- a reading
abbrev pub reading_text : Reading → List ℕ
reading_text (number z) = signed_decimal z
reading_text (dimension z) = dimension_text z
reading_text (tokens ts) = flat_map token_text ts
