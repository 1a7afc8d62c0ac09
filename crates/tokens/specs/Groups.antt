-- The kinds of group: their names, and what closes each.
use Rattle.std.specs.Prelude.{ℕ, Bool, true, false, List, codes, ◌==◌}
use Rattle.tokens.specs.declared.group.GroupKind.{GroupKind}
use Rattle.tokens.specs.declared.group.GroupKind.TheVariants.{Simple, SemiSimple, Hbox, Align}
use Rattle.tokens.specs.declared.group.Closer.{Closer}
use Rattle.tokens.specs.declared.group.Closer.TheVariants.{Brace, EndGroup, EndCell}

-- the name that the trace prints
abbrev pub kind_name : GroupKind → List ℕ
kind_name Simple = codes "simple"
kind_name SemiSimple = codes "semi simple"
kind_name Hbox = codes "hbox"
kind_name Align = codes "align"

-- a brace closes simple groups and boxes, the other two closers a kind each
abbrev pub closed_by : GroupKind → Closer → Bool
closed_by Simple Brace = true
closed_by Simple EndGroup = false
closed_by Simple EndCell = false
closed_by SemiSimple Brace = false
closed_by SemiSimple EndGroup = true
closed_by SemiSimple EndCell = false
closed_by Hbox Brace = true
closed_by Hbox EndGroup = false
closed_by Hbox EndCell = false
closed_by Align Brace = false
closed_by Align EndGroup = false
closed_by Align EndCell = true

-- the kinds in their order
abbrev pub kind_index : GroupKind → ℕ
kind_index Simple = 0
kind_index SemiSimple = 1
kind_index Hbox = 2
kind_index Align = 3

-- whether two kinds are one
abbrev pub same_kind : GroupKind → GroupKind → Bool
same_kind a b = kind_index a == kind_index b
