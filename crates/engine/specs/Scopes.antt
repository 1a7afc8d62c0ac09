-- How long assignments hold.
use Rattle.std.specs.Prelude.{Bool, true, false}
use Rattle.engine.specs.declared.target.Scope.{Scope}
use Rattle.engine.specs.declared.target.Scope.TheVariants.{Local, Global}

-- whether an assignment holds in all groups
abbrev pub is_global : Scope → Bool
is_global Local = false
is_global Global = true
