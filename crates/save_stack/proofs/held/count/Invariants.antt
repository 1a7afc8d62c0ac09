use Rattle.std.proofs.Common.{◌≡◌, ◌+◌, ◌≤◌, length, reverse, take}
use Rattle.save_stack.specs.Entries.{held_in}
use Rattle.save_stack.proofs.held.count.Given as goal

abbrev pub invariant-loop-entry : goal.invariant-loop-entry
invariant-loop-entry g l =
    (l.held + length l.entry-iterator.iter.rest.now ≤ length l.entries)
    × (l.held + held_in (reverse l.entry-iterator.iter.rest.now) ≡ held_in (reverse (take l.top l.entries)))
