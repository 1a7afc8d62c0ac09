-- The names of registers, as they are printed.
use Rattle.std.specs.Prelude.{ℕ, List, ◌++◌, codes, decimal}
use Rattle.tokens.specs.Classes.{class_name}
use Rattle.tokens.specs.declared.class.Class.{Class}

-- a register's name up to its value, as `\count1=`
abbrev pub name_text : Class → ℕ → List ℕ
name_text c n = codes "\\" ++ class_name c ++ decimal n ++ codes "="
