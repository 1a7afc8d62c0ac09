-- The entries of a save stack.
use Rattle.std.specs.Prelude.{ℕ, ◌+◌, Bool, true, false, List, [], ◌∷◌}
use Rattle.save_stack.specs.declared.entry.Entry.{Entry}
use Rattle.save_stack.specs.declared.entry.Entry.TheVariants.{Saved, Held, Boundary}

-- whether an entry is a token that is held back
abbrev pub is_held : {V : Type 0} → Entry V → Bool
is_held (Saved p c) = false
is_held (Held c) = true
is_held (Boundary g) = false

-- whether a group begins at an entry
abbrev pub is_boundary : {V : Type 0} → Entry V → Bool
is_boundary (Saved p c) = false
is_boundary (Held c) = false
is_boundary (Boundary g) = true

-- how many tokens are held back in the innermost group, newest first
abbrev pub held_in : {V : Type 0} → List (Entry V) → ℕ
held_in [] = 0
held_in (Saved p c ∷ es) = held_in es
held_in (Held c ∷ es) = held_in es + 1
held_in (Boundary g ∷ es) = 0
