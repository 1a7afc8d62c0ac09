-- What the tests of a call that is carried out came to.
use Rattle.std.proofs.Common.{◌≡◌, ℕ, ◌<◌, Bool, true, false, cond, not, ◌&&◌, eqb, ltb, List, [], ◌∷◌, Some, None, Option, sym, refl, ap, ◌∙◌, arith}
use borrow.Author.Tests.{eqb-false}
use Rattle.std.proofs.lemmas.Bool.{and_parts, not-true, not-false}
use Rattle.tokens.specs.Classes.{is_list}
use Rattle.tokens.specs.declared.class.Class.{Class}
use Rattle.tokens.specs.declared.class.Class.TheVariants.{Count, Dimen, Toks}
use Rattle.tokens.specs.declared.refusal.Refusal.TheVariants.{OutOfBounds, NoPlace, NoEntry, NoNodes}
use Rattle.values.specs.Readings.{tokens, suits}
use Rattle.values.specs.Ops.{Ops, list_stands}
use Rattle.values.specs.Laws.{Laws}
use Rattle.stores.specs.Cells.{cell, is_blank}
use Rattle.stores.specs.Stores.{StoreModel, full, written}
use Rattle.stores.specs.declared.fault.StoreFault.TheVariants.{Beyond, Full}
use Rattle.save_stack.specs.Stacks.{StackModel, is_full}
use Rattle.save_stack.specs.declared.entry.Entry.{Entry}
use Rattle.save_stack.specs.declared.entry.Entry.TheVariants.{Saved}
use Rattle.engine.specs.declared.demand.Demand.{Demand}
use Rattle.engine.specs.declared.fault.Cause.{Cause}
use Rattle.engine.specs.declared.fault.Cause.TheVariants.{Store, Place}
use Rattle.engine.specs.Faults.{first_of, is_none}
use Rattle.engine.specs.Tables.{Table}
use Rattle.engine.specs.Acts.{Source, given, fresh, sets, value_of, pool_of, chosen, demand_of, level_of, saving, cause_of, put_in, picked, passes}
use Rattle.laws.proofs.Forms.{writes_is, topped, pushed_is}

-- a test that was passed, and those after it
pub pass : (b : Bool) (c : Cause) (r : Option Cause) → is_none (cond b (Some c) r) ≡ true → (b ≡ false) × (is_none r ≡ true)
pass true c r e = (sym e, cc)
pass false c r e = (refl, e)

-- a stack that is not full has room
pub room_of : {E : Type 0} (s : StackModel E) → is_full s ≡ false → 0 < s.room
room_of s e = let a : ¬ (s.room ≡ 0) = eqb-false s.room 0 e in omega arith

-- the same where it has to have room only if b
pub room_if : {E : Type 0} (b : Bool) (s : StackModel E) → (b && is_full s) ≡ false → b ≡ true → is_full s ≡ false
room_if true s e d = e
room_if false s e d = cc

-- the tests of an assignment
pub record Granted {V M : Type 0} (k : Ops V M) (d : Demand) (global : Bool) (t : Table V M) (p : ℕ) : Type 0 where
  pub bounded : d.bounded ≡ true
  pub below : ltb p t.store.reach ≡ true
  pub fits : d.fits ≡ true
  pub room : (saving k global t p && is_full t.saves) ≡ false
  pub affordable : d.affordable ≡ true
  pub spare : full k.is_zero t.store p (d.zero && eqb (level_of k global t) 1) ≡ false

-- the list of a source is there, or it is a new one, and lists stand at the place
abbrev pub Good : {V M : Type 0} → Ops V M → Source V → M → ℕ → Type 0
Good k (given v) m p = list_stands k v m ≡ true
Good k (fresh ts b) m p = (k.there m b ≡ false) × (suits (tokens ts) (k.class_of p) ≡ true)

-- a class that holds lists is one at which they stand
suits_list : (ts : List ℕ) (c : Class) → is_list c ≡ true → suits (tokens ts) c ≡ true
suits_list ts Count e = e
suits_list ts Dimen e = e
suits_list ts Toks e = e

module _ {V M : Type 0} (k : Ops V M) where
  -- no cause, so each test was passed
  granted : (global : Bool) (t : Table V M) (p : ℕ) (s : Source V) → is_none (cause_of k (sets global p s) t) ≡ true → Granted k (demand_of k s t.pool p) global t p
  granted global t p s e =
      let d : Demand = demand_of k s t.pool p in
      let f5 : List (Bool × Cause) = (full k.is_zero t.store p (d.zero && eqb (level_of k global t) 1), Store (Full p)) ∷ [] in
      let f4 : List (Bool × Cause) = (not d.affordable, Place NoNodes p) ∷ f5 in
      let f3 : List (Bool × Cause) = (saving k global t p && is_full t.saves, Place NoEntry p) ∷ f4 in
      let f2 : List (Bool × Cause) = (not d.fits, Place NoPlace p) ∷ f3 in
      let f1 : List (Bool × Cause) = (not (ltb p t.store.reach), Store (Beyond p)) ∷ f2 in
      let x0 = pass (not d.bounded) (Place OutOfBounds p) (first_of f1) e in
      let x1 = pass (not (ltb p t.store.reach)) (Store (Beyond p)) (first_of f2) x0.1 in
      let x2 = pass (not d.fits) (Place NoPlace p) (first_of f3) x1.1 in
      let x3 = pass (saving k global t p && is_full t.saves) (Place NoEntry p) (first_of f4) x2.1 in
      let x4 = pass (not d.affordable) (Place NoNodes p) (first_of f5) x3.1 in
      let x5 = pass (full k.is_zero t.store p (d.zero && eqb (level_of k global t) 1)) (Store (Full p)) None x4.1 in
      record {
        bounded = not-false d.bounded x0.0;
        below = not-false (ltb p t.store.reach) x1.0;
        fits = not-false d.fits x2.0;
        room = x3.0;
        affordable = not-false d.affordable x4.0;
        spare = x5.0;
      }

  -- its source is good
  good : (s : Source V) (m : M) (p : ℕ) → (demand_of k s m p).fits ≡ true → chosen k s m ≡ true → Good k s m p
  good (given v) m p e d = (and_parts (k.fits v p) (list_stands k v m) (and_parts (k.register p) (k.fits v p && list_stands k v m) e).1).1
  good (fresh ts b) m p e d = (not-true (k.there m b) d, suits_list ts (k.class_of p) (and_parts (k.register p) (is_list (k.class_of p)) e).1)

  -- what is asked of a source tells whether its value is zero
  zero_of : Laws k → (s : Source V) (m : M) (p : ℕ) → Good k s m p → (demand_of k s m p).zero ≡ k.is_zero (value_of k s)
  zero_of laws (given v) m p g = refl
  zero_of laws (fresh ts b) m p g = sym (laws.made_zero (tokens ts) b p g.1)

  -- the table once a value is in its place, where neither the write nor the push is refused
  abbrev pub placed : Bool → Bool → Table V M → ℕ → Source V → Table V M
  placed save global t p s = record {
    store = written k.is_zero t.store p (cell (value_of k s) (level_of k global t));
    pool = cond save (k.taken (value_of k s) (pool_of k s t.pool)) (k.dropped (t.store.cells p).value (k.taken (value_of k s) (pool_of k s t.pool)));
    level = t.level;
    group = t.group;
    saves = cond save (topped t.saves (Saved p (t.store.cells p))) t.saves;
    pending = t.pending;
  }

  module _ (laws : Laws k) (global : Bool) (t : Table V M) (p : ℕ) (s : Source V) (go : passes k (sets global p s) t ≡ true) where
    -- both parts of the test whether it is carried out
    tests : (is_none (cause_of k (sets global p s) t) ≡ true) × (picked k (sets global p s) t ≡ true)
    tests = and_parts (is_none (cause_of k (sets global p s) t)) (picked k (sets global p s) t) go

    -- an assignment that is carried out passed its tests, and its source is good
    pub grants : Granted k (demand_of k s t.pool p) global t p
    grants = granted global t p s tests.0

    pub good_source : Good k s t.pool p
    good_source = good s t.pool p grants.fits tests.1

    -- its write is not refused
    spared : full k.is_zero t.store p (is_blank k.is_zero (cell (value_of k s) (level_of k global t))) ≡ false
    spared =
        ap (λ (b : Bool). full k.is_zero t.store p (b && eqb (level_of k global t) 1)) (sym (zero_of laws s t.pool p good_source))
        ∙ grants.spare

    -- so the cell is written
    write_is : (save : Bool) → put_in k save global t p s ≡
        (record {
          store = written k.is_zero t.store p (cell (value_of k s) (level_of k global t));
          pool = (put_in k save global t p s).pool;
          level = t.level;
          group = t.group;
          saves = (put_in k save global t p s).saves;
          pending = t.pending;
        })
    write_is save =
        let f : StoreModel V → Table V M = λ x. record {
          store = x;
          pool = (put_in k save global t p s).pool;
          level = t.level;
          group = t.group;
          saves = (put_in k save global t p s).saves;
          pending = t.pending;
        } in
        ap f (writes_is k.is_zero t.store p (cell (value_of k s) (level_of k global t)) grants.below spared)

    -- and the old cell pushed, if it is saved: the value is in its place
    pub placed_is : (save : Bool) → (save ≡ true → is_full t.saves ≡ false) → put_in k save global t p s ≡ placed save global t p s
    placed_is true h =
        let f : StackModel (Entry V) → Table V M = λ x. record {
          store = written k.is_zero t.store p (cell (value_of k s) (level_of k global t));
          pool = (put_in k true global t p s).pool;
          level = t.level;
          group = t.group;
          saves = x;
          pending = t.pending;
        } in
        write_is true ∙ ap f (pushed_is t.saves (Saved p (t.store.cells p)) (h refl))
    placed_is false h = write_is false
