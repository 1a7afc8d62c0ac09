-- Why calls are refused.
use Rattle.std.specs.Prelude.{Bool, true, false, cond, List, [], ◌∷◌, Some, None, Ok, Err, Option, Result}
use Rattle.tokens.specs.declared.refusal.Refusal.{Refusal}
use Rattle.stores.specs.declared.fault.StoreFault.{StoreFault}
use Rattle.stores.specs.Faults.{store_refusal}
use Rattle.engine.specs.declared.nesting.Nesting.{Nesting}
use Rattle.engine.specs.declared.fault.Cause.{Cause}
use Rattle.engine.specs.declared.fault.Cause.TheVariants.{Store, Place, Call}
use Rattle.engine.specs.declared.fault.EngineFault.{EngineFault}
use Rattle.engine.specs.declared.fault.InGroup.{InGroup}

-- which refusal a cause is
abbrev pub cause_refusal : Cause → Refusal
cause_refusal (Store f) = store_refusal f
cause_refusal (Place r p) = r
cause_refusal (Call r) = r

-- a cause, and the group in which it arose
abbrev pub fault_at : Cause → Nesting → EngineFault
fault_at c n = record { cause = c; nesting = n }

-- a store's answer, with the group added to its fault
abbrev pub raised_at : {A : Type 0} → Result A StoreFault → Nesting → Result A InGroup
raised_at (Ok x) n = Ok x
raised_at (Err f) n = Err (record { fault = f; nesting = n })

-- the first cause whose test holds
abbrev pub first_of : List (Bool × Cause) → Option Cause
first_of [] = None
first_of (x ∷ xs) = cond x.0 (Some x.1) (first_of xs)

-- what a call answers: a result, unless there is a cause to refuse it
abbrev pub answer_of : {A : Type 0} → A → Nesting → Option Cause → Result A EngineFault
answer_of a n None = Ok a
answer_of a n (Some c) = Err (fault_at c n)

-- whether there is none
abbrev pub is_none : {A : Type 0} → Option A → Bool
is_none None = true
is_none (Some x) = false
