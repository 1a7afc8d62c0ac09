-- What an answer tells of the causes to refuse.
use Rattle.std.proofs.Common.{◌≡◌, ℕ, Bool, true, false, cond, not, ◌&&◌, ltb, leb, List, [], ◌∷◌, Some, None, Ok, Err, Option, Result, sym, refl, ap, ◌∙◌, arith}
use Rattle.std.proofs.lemmas.Bool.{leb-true, ltb-true, not-false}
use Rattle.values.specs.Ops.{Ops}
use Rattle.values.specs.Readings.{tokens}
use Rattle.stores.specs.Stores.{StoreModel}
use Rattle.save_stack.specs.Stacks.{StackModel}
use Rattle.save_stack.specs.declared.entry.Entry.{Entry}
use Rattle.engine.specs.declared.demand.Demand.{Demand}
use Rattle.engine.specs.declared.fault.Cause.{Cause}
use Rattle.engine.specs.declared.fault.EngineFault.{EngineFault}
use Rattle.engine.specs.declared.nesting.Nesting.{Nesting}
use Rattle.engine.specs.Acts.{Source, given, fresh, sets, chosen, demand_of, assign_checks, cause_of, assigned, tried}
use Rattle.engine.specs.Faults.{answer_of, first_of, is_none, fault_at}
use Rattle.engine.specs.Tables.{Table, table_of}

-- a refusal of one answer is that of another with the same causes, and there is a cause
pub refused : {A B : Type 0} {f : EngineFault} (x : A) (y : B) (n : Nesting) (o : Option Cause) → Err f ≡ answer_of x n o → (Err f ≡ answer_of y n o) × (is_none o ≡ false)
refused x y n None e = let z : ◌≡◌ {A = ℕ} 0 1 = cc in absurd (omega arith)
refused {B = B} {f = f} x y n (Some c) e = let i : f ≡ fault_at c n = cc in let j : ◌≡◌ {A = Result B EngineFault} (Err f) (Err (fault_at c n)) = cc in (j, refl)

-- where nothing is refused the answer is the result, and there is no cause
pub allowed : {A B : Type 0} {r : A} (x : A) (y : B) (n : Nesting) (o : Option Cause) → Ok r ≡ answer_of x n o → (r ≡ x) × (Ok y ≡ answer_of y n o) × (is_none o ≡ true)
allowed {r = r} x y n None e = let i : r ≡ x = cc in (i, refl, refl)
allowed x y n (Some c) e = let z : ◌≡◌ {A = ℕ} 0 1 = cc in absurd (omega arith)

module _ {V M : Type 0} (k : Ops V M) (global : Bool) (t : Table V M) (p : ℕ) (s : Source V) (n : Nesting) (d : Demand) (asks : d ≡ demand_of k s t.pool p) where
  asked : {A : Type 0} (x : A) → answer_of x n (first_of (assign_checks k d global t p)) ≡ answer_of x n (cause_of k (sets global p s) t)
  asked x = ap (λ (z : Demand). answer_of x n (first_of (assign_checks k z global t p))) asks

  -- an assignment that is refused changes nothing
  pub assign_refused : {f : EngineFault} → Err f ≡ answer_of (t.store.cells p) n (first_of (assign_checks k d global t p))
      → (Err f ≡ answer_of (tt {0}) n (cause_of k (sets global p s) t)) × (t ≡ tried k (sets global p s) t)
  assign_refused e =
      let r = refused (t.store.cells p) (tt {0}) n (cause_of k (sets global p s) t) (e ∙ asked (t.store.cells p)) in
      (r.0, sym (ap (λ (b : Bool). cond (b && chosen k s t.pool) (assigned k global t p s) t) r.1))

  -- one that is not is carried out
  pub assign_done : {u : Table V M} → chosen k s t.pool ≡ true → is_none (first_of (assign_checks k d global t p)) ≡ true → u ≡ assigned k global t p s
      → (Ok (tt {0}) ≡ answer_of (tt {0}) n (cause_of k (sets global p s) t)) × (u ≡ tried k (sets global p s) t)
  assign_done {u = u} new none e =
      let z : is_none (cause_of k (sets global p s) t) ≡ true = ap (λ (z : Demand). is_none (first_of (assign_checks k z global t p))) (sym asks) ∙ none in (
        answers (cause_of k (sets global p s) t) z,
        e ∙ sym (ap (λ (b : Bool). cond (b && chosen k s t.pool) (assigned k global t p s) t) z ∙ ap (λ (b : Bool). cond b (assigned k global t p s) t) new),
      )
    where
      answers : (o : Option Cause) → is_none o ≡ true → Ok (tt {0}) ≡ answer_of (tt {0}) n o
      answers None h = refl
      answers (Some c) h = let z : ◌≡◌ {A = ℕ} 0 1 = cc in absurd (omega arith)

-- no test of a list of checks holds
abbrev pub Clear : List (Bool × Cause) → Type 0
Clear [] = Unit {0}
Clear (x ∷ xs) = (x.0 ≡ false) × Clear xs

-- where there is no cause, no test holds
pub clear : (xs : List (Bool × Cause)) → is_none (first_of xs) ≡ true → Clear xs
clear [] e = tt
clear ((true, c) ∷ xs) e = let z : ◌≡◌ {A = ℕ} 0 1 = cc in absurd (omega arith)
clear ((false, c) ∷ xs) e = (refl, clear xs e)

-- a list that is made and then assigned is a list that is assigned as it is made
pub remade : {V M : Type 0} (k : Ops V M) (global : Bool) (s : StoreModel V) (m n : M) (at : Nesting) (e : StackModel (Entry V)) (q : StackModel ℕ) (p b : ℕ) (ts : List ℕ) (v : V)
    → v ≡ k.made (tokens ts) b → n ≡ k.makes (tokens ts) b m
    → assigned k global (table_of s n at e q) p (given v) ≡ assigned k global (table_of s m at e q) p (fresh ts b)
remade k global s m n at e q p b ts v f h =
    ap (λ z. assigned k global (table_of s z at e q) p (given v)) h
    ∙ ap (λ z. assigned k global (table_of s (k.makes (tokens ts) b m) at e q) p (given z)) f

-- nodes that suffice are not too few
pub enough : (free cost : ℕ) (b : Bool) → b ≡ leb cost free → not b ≡ false → ltb free cost ≡ true → ⊥
enough free cost b e h l =
    let c = leb-true cost free (sym e ∙ not-false b h) in
    let d = ltb-true free cost l in
    omega arith
