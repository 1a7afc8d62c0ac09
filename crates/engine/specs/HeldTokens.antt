-- What becomes of the tokens that a group held back.
use Rattle.std.specs.Prelude.{Bool, true, false}
use Rattle.engine.specs.declared.close.HeldTokens.{HeldTokens}
use Rattle.engine.specs.declared.close.HeldTokens.TheVariants.{Kept, Dropped}

-- whether they go onto pending
abbrev pub is_kept : HeldTokens → Bool
is_kept Kept = true
is_kept Dropped = false
