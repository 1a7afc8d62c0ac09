-- What is carried out keeps tables sound, and the promises to their registers.
use Rattle.std.proofs.Common.{◌≡◌, ℕ, zero, suc, ◌+◌, ◌-◌, ◌<◌, ◌≤◌, Bool, true, false, cond, not, ◌&&◌, eqb, ltb, leb, ◌⊎◌, [], ◌∷◌, Some, None, Option, sym, refl, subst, inl, inr, arith, ltb-false, ltb-true, eqb-true}
use Rattle.std.proofs.lemmas.Bool.{and_parts, not-false}
use Rattle.tokens.specs.Codes.{is_code}
use Rattle.tokens.specs.Limits.{top_level}
use Rattle.tokens.specs.declared.group.Group.{Group}
use Rattle.tokens.specs.declared.refusal.Refusal.TheVariants.{OutOfBounds, OtherGroup, TooDeep, NoEntry}
use Rattle.values.specs.Ops.{Ops}
use Rattle.values.specs.Laws.{Laws}
use Rattle.save_stack.specs.Stacks.{StackModel, is_full}
use Rattle.save_stack.specs.declared.entry.Entry.{Entry}
use Rattle.save_stack.specs.declared.entry.Entry.TheVariants.{Held, Boundary}
use Rattle.engine.specs.declared.fault.Cause.{Cause}
use Rattle.engine.specs.declared.fault.Cause.TheVariants.{Call}
use Rattle.engine.specs.Faults.{first_of, is_none}
use Rattle.engine.specs.Tables.{Table}
use Rattle.engine.specs.Acts.{Source, Act, opens, closes, drops, sets, holds, reading_of, saving, cause_of, picked, passes, done, opened, held_back, pops}
use Rattle.laws.specs.Histories.{Event, begin, end, global, other, event}
use Rattle.laws.proofs.Fates.{fate}
use Rattle.laws.proofs.Invariants.{Sound, promise}
use Rattle.laws.proofs.Forms.{pushed_is}
use Rattle.laws.proofs.Pops.{shut}
use Rattle.laws.proofs.Grants.{pass, room_of, room_if, Good, grants, good_source, placed, placed_is}
use Rattle.laws.proofs.Sets.{sound_global, promise_global, sound_saved, promise_saved, sound_over, promise_over}

module _ {V M : Type 0} (k : Ops V M) where
  -- what each event does to the level and to the promises of the groups that stay
  abbrev pub Does : Event → Table V M → Table V M → Type 0
  Does begin t u = (u.level ≡ t.level + 1) × ((n q : ℕ) → promise k (suc n) u q ≡ promise k n t q) × ((q : ℕ) → promise k 0 u q ≡ promise k 0 t q)
  Does end t u = (u.level ≡ t.level - 1) × ((n q : ℕ) → q < t.store.reach → promise k n u q ≡ promise k (suc n) t q) × (1 < t.level)
  Does (global p r) t u = (u.level ≡ t.level) × ((n q : ℕ) → suc n < t.level → q < t.store.reach → promise k (suc n) u q ≡ cond (eqb p q) r (promise k (suc n) t q))
  Does other t u = (u.level ≡ t.level) × ((n q : ℕ) → suc n < t.level → q < t.store.reach → promise k (suc n) u q ≡ promise k (suc n) t q)

-- something carried out, from a table to the one after it
pub record Step {V M : Type 0} (k : Ops V M) (e : Event) (t u : Table V M) : Type 0 where
  pub sound : Sound k u
  pub reach : u.store.reach ≡ t.store.reach
  pub does : Does k e t u

module _ {V M : Type 0} (k : Ops V M) (laws : Laws k) where
  -- a group is opened
  step_open : (g : Group) (t : Table V M) → Sound k t → is_full t.saves ≡ false → Step k begin t (opened k t g)
  step_open g t i h =
      let f : StackModel (Entry V) → Table V M = λ x. record {
        store = t.store;
        pool = t.pool;
        level = t.level + 1;
        group = Some g;
        saves = x;
        pending = t.pending;
      } in
      subst (λ (x : StackModel (Entry V)). Step k begin t (f x)) (sym (pushed_is t.saves (Boundary t.group) h)) (record {
        sound = record {
          inner = record {
            counted = i.inner.counted;
            low = open_low;
            inside = i.inner.inside;
            far = i.inner.far;
            small = let a = i.inner.small in let r = room_of t.saves h in omega arith;
          };
          flat = λ q. let a = i.flat q in omega arith;
          up = omega arith;
        };
        reach = refl;
        does = (refl, (λ n q. refl), (λ q. refl));
      })
    where
      open_low : (n q : ℕ) → suc n < t.level + 1 → (fate n q t.saves.held (t.store.cells q)).level + suc n ≤ t.level + 1
      open_low zero q d = let a = i.flat q in omega arith
      open_low (suc n) q d = let a = i.inner.low n q (omega arith) in omega arith

  -- a group is closed
  step_close : (keep : Bool) (t : Table V M) → Sound k t → 1 < t.level → Step k end t (pops k keep t.saves.held t)
  step_close keep t i h =
      let z = shut k laws keep t.saves.held t refl i.inner h in
      record { sound = z.sound; reach = z.reach; does = (z.level, z.kept, h) }

  -- a token is held back
  step_hold : (b : Bool) (c : ℕ) (t : Table V M) → Sound k t → (b ≡ true → is_full t.saves ≡ false) → Step k other t (held_back k b t c)
  step_hold true c t i h =
      let f : StackModel (Entry V) → Table V M = λ x. record {
        store = t.store;
        pool = t.pool;
        level = t.level;
        group = t.group;
        saves = x;
        pending = t.pending;
      } in
      subst (λ (x : StackModel (Entry V)). Step k other t (f x)) (sym (pushed_is t.saves (Held c) (h refl))) (record {
        sound = record {
          inner = record {
            counted = i.inner.counted;
            low = i.inner.low;
            inside = i.inner.inside;
            far = i.inner.far;
            small = let a = i.inner.small in let r = room_of t.saves (h refl) in omega arith;
          };
          flat = i.flat;
          up = i.up;
        };
        reach = refl;
        does = (refl, λ n q d r. refl);
      })
  step_hold false c t i h = record {
    sound = record {
      inner = record { counted = i.inner.counted; low = i.inner.low; inside = i.inner.inside; far = i.inner.far; small = i.inner.small };
      flat = i.flat;
      up = i.up;
    };
    reach = refl;
    does = (refl, λ n q d r. refl);
  }

  module _ (t : Table V M) (i : Sound k t) (p : ℕ) (s : Source V) (ok : Good k s t.pool p) (at : p < t.store.reach) where
    -- an assignment: globally, over a cell of this level, or saving the old one
    step_global : Step k (global p (reading_of k s t.pool p)) t (placed k false true t p s)
    step_global = record {
      sound = sound_global k laws t i p s ok at;
      reach = refl;
      does = (refl, λ n q d h. promise_global k laws t i p s ok at n q h);
    }

    step_over : (t.level ≤ 1 ⊎ (t.store.cells p).level ≡ t.level) → Step k other t (placed k false false t p s)
    step_over c = record {
      sound = sound_over k laws t i p s ok at c;
      reach = refl;
      does = (refl, λ n q d h. promise_over k laws t i p s ok at c n q d h);
    }

    step_saved : 1 < t.level → 0 < t.saves.room → Step k other t (placed k true false t p s)
    step_saved l h = record {
      sound = sound_saved k laws t i p s ok at l h;
      reach = refl;
      does = (refl, λ n q d r. promise_saved k laws t i p s ok at l h n q r);
    }

    -- locally: by the level, and by whether the cell is of this level
    step_local : (a b : Bool) → ltb 1 t.level ≡ a → eqb (t.store.cells p).level t.level ≡ b → ((a && not b) ≡ true → 0 < t.saves.room) →
        Step k other t (placed k (a && not b) false t p s)
    step_local false b e d h = step_over (inl (ltb-false 1 t.level e))
    step_local true true e d h = step_over (inr (eqb-true (t.store.cells p).level t.level d))
    step_local true false e d h = step_saved (ltb-true 1 t.level e) (h refl)

  -- a close is inside a group
  deep_of : (a b : Bool) (c : Cause) (r : Option Cause) → is_none (cond (not (a && b)) (Some c) r) ≡ true → a ≡ true
  deep_of a b c r e = (and_parts a b (not-false (a && b) (pass (not (a && b)) c r e).0)).0

  -- no test refuses what is carried out
  free : (a : Act V) (t : Table V M) → passes k a t ≡ true → is_none (cause_of k a t) ≡ true
  free a t e = (and_parts (is_none (cause_of k a t)) (picked k a t) e).0

  -- what is carried out is a step
  pub step : (a : Act V) (t : Table V M) → Sound k t → passes k a t ≡ true → Step k (event k a t) t (done k a t)
  step (opens g) t i e =
      let x = pass (leb top_level t.level) (Call TooDeep) (first_of ((is_full t.saves, Call NoEntry) ∷ [])) (free (opens g) t e) in
      let y = pass (is_full t.saves) (Call NoEntry) None x.1 in
      step_open g t i y.0
  step (closes kind l) t i e =
      step_close true t i (ltb-true 1 t.level (deep_of (ltb 1 t.level) _ (Call OtherGroup) _ (free (closes kind l) t e)))
  step drops t i e =
      let x = pass (not (ltb 1 t.level)) (Call OtherGroup) None (free drops t e) in
      step_close false t i (ltb-true 1 t.level (not-false (ltb 1 t.level) x.0))
  step (sets true p s) t i e =
      let x = grants k laws true t p s e in
      subst (λ (u : Table V M). Step k (global p (reading_of k s t.pool p)) t u)
      (sym (placed_is k laws true t p s e false (room_if false t.saves x.room)))
      (step_global t i p s (good_source k laws true t p s e) (ltb-true p t.store.reach x.below))
  step (sets false p s) t i e =
      let x = grants k laws false t p s e in
      let h = room_if (saving k false t p) t.saves x.room in
      subst (λ (u : Table V M). Step k other t u)
      (sym (placed_is k laws false t p s e (saving k false t p) h))
      (step_local t i p s (good_source k laws false t p s e) (ltb-true p t.store.reach x.below)
      (ltb 1 t.level) (eqb (t.store.cells p).level t.level) refl refl (λ d. room_of t.saves (h d)))
  step (holds c) t i e =
      let x = pass (not (is_code c)) (Call OutOfBounds) (first_of ((ltb 1 t.level && is_full t.saves, Call NoEntry) ∷ [])) (free (holds c) t e) in
      let y = pass (ltb 1 t.level && is_full t.saves) (Call NoEntry) None x.1 in
      step_hold (ltb 1 t.level) c t i (room_if (ltb 1 t.level) t.saves y.0)
