-- Handles of groups, and the answers that have them.
use Rattle.std.specs.Prelude.{ℕ, ◌+◌, Some, None, Ok, Err, Option, Result}
use Rattle.tokens.specs.declared.group.GroupKind.{GroupKind}
use Rattle.engine.specs.Faults.{answer_of, fault_at}
use Rattle.engine.specs.declared.fault.Cause.{Cause}
use Rattle.engine.specs.declared.fault.EngineFault.{EngineFault}
use Rattle.engine.specs.declared.nesting.Nesting.{Nesting}
use Rattle.registers.specs.declared.handle.GroupHandle.{GroupHandle}
use Rattle.registers.specs.declared.handle.StillOpen.{StillOpen}

-- the handle of a group: its kind, and the level inside it
abbrev pub handle_of : GroupKind → ℕ → GroupHandle
handle_of kind l = record { kind = kind; level = l }

-- a group is opened: the handle of the new level
abbrev pub open_answer : GroupKind → Nesting → Option Cause → Result GroupHandle EngineFault
open_answer kind n o = answer_of (handle_of kind (n.level + 1)) n o

-- a group is closed, or its handle is given back
abbrev pub close_answer : GroupHandle → Nesting → Option Cause → Result Unit StillOpen
close_answer h n None = Ok tt
close_answer h n (Some c) = Err (record { fault = fault_at c n; handle = h })
