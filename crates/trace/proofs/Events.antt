-- The line of an event is made of its parts.
use Rattle.std.proofs.Common.{◌≡◌, ℕ, ◌<◌, List, length, refl, lit<}
use Rattle.tokens.specs.declared.group.Group.{Group}
use Rattle.trace.specs.declared.groups.GroupEvent.{GroupEvent}
use Rattle.trace.specs.declared.groups.GroupEvent.TheVariants.{Entering, Leaving}
use Rattle.trace.specs.declared.registers.RegisterEvent.{RegisterEvent}
use Rattle.trace.specs.declared.registers.RegisterEvent.TheVariants.{Restoring, Retaining, Listed}
use Rattle.trace.specs.Lines.{group_text, group_verb, place_words, group_line, register_text, register_verb, register_end, register_line}

-- the line of a group
pub of_group : (e : GroupEvent) (g : Group) (l : ℕ) → group_text (group_verb e) g l (place_words e) ≡ group_line e g l
of_group Entering g l = refl
of_group Leaving g l = refl

-- the line of a register
pub of_register : (e : RegisterEvent) (shown : List ℕ) → register_text (register_verb e) shown (register_end e) ≡ register_line e shown
of_register Restoring shown = refl
of_register Retaining shown = refl
of_register Listed shown = refl

-- the line of a register has an end
pub end_some : (e : RegisterEvent) → 0 < length (register_end e)
end_some Restoring = lit< tt
end_some Retaining = lit< tt
end_some Listed = lit< tt
