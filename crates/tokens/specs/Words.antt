-- The words of the language.
use Rattle.std.specs.Prelude.{ℕ, ◌-◌, cond, List, [], ◌∷◌, codes, nat_lt, slice_index_or}
use Rattle.tokens.specs.Codes.{first_word}
use Rattle.tokens.specs.declared.word.ControlWord.{ControlWord}
use Rattle.tokens.specs.declared.word.ControlWord.TheVariants.{BeginGroup, EndGroup, Hbox, Cell, EndCell, Global, Count, Dimen, Toks, AfterGroup, The, Relax}

-- the words, in the order of their codes
abbrev pub words : List (List ℕ)
words =
    codes "begingroup" ∷ codes "endgroup" ∷ codes "hbox" ∷ codes "cell" ∷ codes "endcell" ∷ codes "global"
    ∷ codes "count" ∷ codes "dimen" ∷ codes "toks" ∷ codes "aftergroup" ∷ codes "the" ∷ codes "relax" ∷ []

-- the letters of the word of a code; none for a code that is no word's
abbrev pub word_text : ℕ → List ℕ
word_text code = cond (nat_lt code first_word) [] (slice_index_or words (code - first_word) [])

-- the code of a word: they follow one another in this order
abbrev pub word_code : ControlWord → ℕ
word_code BeginGroup = 256
word_code EndGroup = 257
word_code Hbox = 258
word_code Cell = 259
word_code EndCell = 260
word_code Global = 261
word_code Count = 262
word_code Dimen = 263
word_code Toks = 264
word_code AfterGroup = 265
word_code The = 266
word_code Relax = 267
