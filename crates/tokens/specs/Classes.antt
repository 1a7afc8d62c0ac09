-- The classes of registers.
use Rattle.std.specs.Prelude.{ℕ, Bool, true, false, List}
use Rattle.tokens.specs.Words.{word_code, word_text}
use Rattle.tokens.specs.declared.class.Class.{Class}
use Rattle.tokens.specs.declared.word.ControlWord.{ControlWord}
use Rattle.tokens.specs.declared.class.Class.TheVariants.{Count, Dimen, Toks}

-- the word that names a register of the class
abbrev pub class_word : Class → ControlWord
class_word Count = ControlWord.Count
class_word Dimen = ControlWord.Dimen
class_word Toks = ControlWord.Toks

-- its code
abbrev pub class_code : Class → ℕ
class_code c = word_code (class_word c)

-- that word
abbrev pub class_name : Class → List ℕ
class_name c = word_text (class_code c)

-- whether registers of the class hold lists
abbrev pub is_list : Class → Bool
is_list Count = false
is_list Dimen = false
is_list Toks = true
