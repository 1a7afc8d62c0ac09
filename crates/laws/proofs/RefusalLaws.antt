-- The order of refusals, from the order in which the conditions stand.
use Rattle.std.proofs.Common.{◌≡◌, ℕ, ◌≤◌, Bool, true, false, cond, ◌&&◌, List, [], ◌∷◌, Some, None, Option, ap, subst, arith, lit≤}
use Rattle.values.specs.Ops.{Ops}
use Rattle.engine.specs.Tables.{Table}
use Rattle.engine.specs.Faults.{first_of, is_none}
use Rattle.engine.specs.Acts.{Act, opens, closes, drops, sets, holds, checks, picked, done}
use Rattle.engine.specs.declared.fault.Cause.{Cause}
use Rattle.laws.specs.Order.{cause_number, Applies, here, later, FirstRefusal, NoneRefused, RefusalStays, RefusalLaws}

-- the numbers of some conditions ascend, from n on
abbrev Ascends : ℕ → List (Bool × Cause) → Type 0
Ascends n [] = Unit
Ascends n (x ∷ xs) = (n ≤ cause_number x.1) × Ascends (cause_number x.1) xs

-- each number is then n or more
bounded : (n : ℕ) (xs : List (Bool × Cause)) (d : Cause) → Ascends n xs → Applies d xs → n ≤ cause_number d
bounded n [] d o a = elim a [ ]
bounded n (x ∷ xs) d o here = o.0
bounded n (x ∷ xs) d o (later a) =
    let h = o.0 in
    let q = bounded (cause_number x.1) xs d o.1 a in
    omega arith

-- the first of some conditions is one that applies
applies : (xs : List (Bool × Cause)) (c : Cause) → first_of xs ≡ Some c → Applies c xs
applies [] c e = absurd cc
applies ((true, b) ∷ xs) c e = let q : b ≡ c = cc in subst (λ (y : Cause). Applies y ((true, b) ∷ xs)) q here
applies ((false, b) ∷ xs) c e = later (applies xs c e)

-- and has the smallest number of those that apply
smallest : (n : ℕ) (xs : List (Bool × Cause)) (c d : Cause) → Ascends n xs → first_of xs ≡ Some c → Applies d xs → cause_number c ≤ cause_number d
smallest n [] c d o e a = elim a [ ]
smallest n ((true, b) ∷ xs) c d o e a =
    let q : b ≡ c = cc in
    subst (λ (y : Cause). cause_number y ≤ cause_number d) q (bounded (cause_number b) ((true, b) ∷ xs) d (omega arith, o.1) a)
smallest n ((false, b) ∷ xs) c d o e (later a) = smallest (cause_number b) xs c d o.1 e a

-- where there is no first, none applies
none : (xs : List (Bool × Cause)) (d : Cause) → first_of xs ≡ None → Applies d xs → ⊥
none [] d e a = elim a [ ]
none ((true, b) ∷ xs) d e a = cc
none ((false, b) ∷ xs) d e (later a) = none xs d e a

module _ {V M : Type 0} (k : Ops V M) where
  -- the numbers ascend in every call
  ascend : (a : Act V) (t : Table V M) → Ascends 0 (checks k a t)
  ascend (opens g) t = (lit≤ tt, (lit≤ tt, tt))
  ascend (closes kind l) t = (lit≤ tt, (lit≤ tt, tt))
  ascend drops t = (lit≤ tt, tt)
  ascend (sets global p s) t = (lit≤ tt, (lit≤ tt, (lit≤ tt, (lit≤ tt, (lit≤ tt, (lit≤ tt, tt))))))
  ascend (holds c) t = (lit≤ tt, (lit≤ tt, tt))

  -- the parts of the law
  first_refusal : FirstRefusal k
  first_refusal a t c e = (applies (checks k a t) c e, λ d h. smallest 0 (checks k a t) c d (ascend a t) e h)

  none_refused : NoneRefused k
  none_refused a t e d h = none (checks k a t) d e h

  refusal_stays : RefusalStays k
  refusal_stays a t c e = ap (λ (o : Option Cause). cond (is_none o && picked k a t) (done k a t) t) e

  -- the law
  pub refusal_laws : RefusalLaws k
  refusal_laws = (first_refusal, none_refused, refusal_stays)
