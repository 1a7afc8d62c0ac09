-- The codes of tokens: a byte's code is the byte, and the words follow from 256 on.
use Rattle.std.specs.Prelude.{ℕ, ◌+◌, Bool, cond, not, ◌&&◌, List, ◌==◌, nat_le, nat_lt}
use Rattle.std.specs.List.{list_all}

-- the code of the first word
abbrev pub first_word : ℕ
first_word = 256

-- how many words there are
abbrev pub word_count : ℕ
word_count = 12

-- the space, each visible byte but the backslash, and the words
unfoldable pub is_code : ℕ → Bool
is_code c = cond (nat_lt c first_word) (nat_le 32 c && (nat_le c 126 && not (c == 92))) (nat_lt c (first_word + word_count))

-- a list of such codes
abbrev pub all_codes : List ℕ → Bool
all_codes cs = list_all is_code cs
