-- The order of refusals.
use Rattle.std.specs.Prelude.{◌≡◌, ℕ, ◌≤◌, Bool, true, List, ◌∷◌, Some, None}
use Rattle.tokens.specs.Refusals.{number_of}
use Rattle.values.specs.Ops.{Ops}
use Rattle.engine.specs.Tables.{Table}
use Rattle.engine.specs.Faults.{cause_refusal}
use Rattle.engine.specs.Acts.{Act, checks, cause_of, tried}
use Rattle.engine.specs.declared.fault.Cause.{Cause}

-- the number by which a cause is refused
abbrev pub cause_number : Cause → ℕ
cause_number c = number_of (cause_refusal c)

-- a condition to refuse is among some, and holds
pub data Applies (c : Cause) : List (Bool × Cause) → Type 0 where
  here : {xs : List (Bool × Cause)} → Applies c ((true, c) ∷ xs)
  later : {x : Bool × Cause} {xs : List (Bool × Cause)} → Applies c xs → Applies c (x ∷ xs)

module _ {V M : Type 0} (k : Ops V M) where
  -- the answer is a refusal that applies, and none that applies has a smaller number
  abbrev pub FirstRefusal : Type 0
  FirstRefusal = (a : Act V) (t : Table V M) (c : Cause) → cause_of k a t ≡ Some c →
      Applies c (checks k a t) × ((d : Cause) → Applies d (checks k a t) → cause_number c ≤ cause_number d)

  -- where nothing is refused, no condition to refuse holds
  abbrev pub NoneRefused : Type 0
  NoneRefused = (a : Act V) (t : Table V M) → cause_of k a t ≡ None → (d : Cause) → Applies d (checks k a t) → ⊥

  -- a refused call changes nothing
  abbrev pub RefusalStays : Type 0
  RefusalStays = (a : Act V) (t : Table V M) (c : Cause) → cause_of k a t ≡ Some c → tried k a t ≡ t

  -- all of these
  abbrev pub RefusalLaws : Type 0
  RefusalLaws = FirstRefusal × NoneRefused × RefusalStays
