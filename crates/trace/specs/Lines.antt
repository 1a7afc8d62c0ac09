-- The lines of the trace and of the listing.
use Rattle.std.specs.Prelude.{ℕ, ◌-◌, cond, List, [], ◌++◌, codes, decimal, ◌==◌}
use Rattle.tokens.specs.Groups.{kind_name}
use Rattle.tokens.specs.declared.group.Group.{Group}
use Rattle.trace.specs.declared.groups.GroupEvent.{GroupEvent}
use Rattle.trace.specs.declared.groups.GroupEvent.TheVariants.{Entering, Leaving}
use Rattle.trace.specs.declared.registers.RegisterEvent.{RegisterEvent}
use Rattle.trace.specs.declared.registers.RegisterEvent.TheVariants.{Restoring, Retaining, Listed}

-- the level inside a group is l: what is printed is one less
abbrev pub level_text : ℕ → List ℕ
level_text l = codes " group (level " ++ decimal (l - 1) ++ codes ")"

-- the part on a line, which line 0 has none of
abbrev pub placed : List ℕ → ℕ → List ℕ
placed words line = cond (line == 0) [] (words ++ decimal line)

-- a line on a group
abbrev pub group_text : List ℕ → Group → ℕ → List ℕ → List ℕ
group_text verb g l words = verb ++ kind_name g.kind ++ level_text l ++ placed words g.line ++ codes "}\n"

-- `{entering simple group (level 1) at line 2}`
abbrev pub entering : Group → ℕ → List ℕ
entering g l = group_text (codes "{entering ") g l (codes " at line ")

-- `{leaving simple group (level 1) entered at line 2}`
abbrev pub leaving : Group → ℕ → List ℕ
leaving g l = group_text (codes "{leaving ") g l (codes " entered at line ")

-- the line of what happens to a group
abbrev pub group_line : GroupEvent → Group → ℕ → List ℕ
group_line Entering g l = entering g l
group_line Leaving g l = leaving g l

-- what that line begins with
abbrev pub group_verb : GroupEvent → List ℕ
group_verb Entering = codes "{entering "
group_verb Leaving = codes "{leaving "

-- the words in it before the number of a line
abbrev pub place_words : GroupEvent → List ℕ
place_words Entering = codes " at line "
place_words Leaving = codes " entered at line "

-- a line on a register, which prints as it is shown
abbrev pub register_text : List ℕ → List ℕ → List ℕ → List ℕ
register_text verb shown close = verb ++ shown ++ close

-- `{restoring \count1=5}`
abbrev pub restoring : List ℕ → List ℕ
restoring shown = register_text (codes "{restoring ") shown (codes "}\n")

-- `{retaining \count1=5}`
abbrev pub retaining : List ℕ → List ℕ
retaining shown = register_text (codes "{retaining ") shown (codes "}\n")

-- `\count1=5`, a line of the listing
abbrev pub listed : List ℕ → List ℕ
listed shown = register_text [] shown (codes "\n")

-- the line of what happens to a register
abbrev pub register_line : RegisterEvent → List ℕ → List ℕ
register_line Restoring shown = restoring shown
register_line Retaining shown = retaining shown
register_line Listed shown = listed shown

-- what that line begins with
abbrev pub register_verb : RegisterEvent → List ℕ
register_verb Restoring = codes "{restoring "
register_verb Retaining = codes "{retaining "
register_verb Listed = []

-- what it ends with
abbrev pub register_end : RegisterEvent → List ℕ
register_end Restoring = codes "}\n"
register_end Retaining = codes "}\n"
register_end Listed = codes "\n"
