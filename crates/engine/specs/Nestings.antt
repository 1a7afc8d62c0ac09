-- How deep a table is in groups.
use Rattle.std.specs.Prelude.{ℕ, Bool, false, Some, None, Option}
use Rattle.tokens.specs.Groups.{same_kind}
use Rattle.tokens.specs.declared.group.Group.{Group}
use Rattle.tokens.specs.declared.group.GroupKind.{GroupKind}
use Rattle.engine.specs.declared.nesting.Nesting.{Nesting}

-- at a level, in a group
abbrev pub inside : ℕ → Option Group → Nesting
inside l g = record { level = l; group = g }

-- outside all groups
abbrev pub bottom : Nesting
bottom = inside 1 None

-- whether the current group is of a kind
abbrev pub in_group : Option Group → GroupKind → Bool
in_group None k = false
in_group (Some g) k = same_kind g.kind k
