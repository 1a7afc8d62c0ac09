-- The law, from its steps.
use Rattle.std.proofs.Common.{◌≡◌, ℕ, ◌<◌, Bool, true, false, cond, List, [], ◌∷◌, ◌++◌, length, sym, refl, ap, ◌∙◌, subst, arith}
use Rattle.values.specs.Ops.{Ops, one}
use Rattle.values.specs.Laws.{Laws}
use Rattle.stores.specs.declared.cell.Cell.{Cell}
use Rattle.save_stack.specs.declared.entry.Entry.{Entry}
use Rattle.engine.specs.Tables.{Table}
use Rattle.engine.specs.Acts.{Act, passes, done, tried, after}
use Rattle.laws.specs.Calls.{Call, acts, New}
use Rattle.laws.specs.Histories.{Event, end, Moment, events, Spans, event, moment, moments, after_calls, history}
use Rattle.laws.specs.Law.{places, entries, reads, ClosesMatch, GroupsRestore, GroupsRetain, Counted, Law}
use Rattle.laws.proofs.Places.{places_none}
use Rattle.laws.proofs.Invariants.{Within, Sound}
use Rattle.laws.proofs.Steps.{Does, step}
use Rattle.laws.proofs.Rows.{last_global, last_none, last_some}
use Rattle.laws.proofs.Courses.{Follows, ending, join, split, ending_join, still_sound, latest, group_kept}

module _ {V M : Type 0} (k : Ops V M) (laws : Laws k) where
  -- from a table, a row of steps leads to another
  Tells : Table V M → List (Moment V M) → Table V M → Type 0
  Tells t ms u = Follows k t ms × (ending k t ms ≡ u)

  -- one act, carried out or refused
  tell_one : (a : Act V) (t : Table V M) → Sound k t → (b : Bool) → passes k a t ≡ b →
      Tells t (cond b (record { what = event k a t; table = done k a t } ∷ []) []) (cond b (done k a t) t)
  unfolding Tells
  tell_one a t i true e = ((step k laws a t i e, tt), refl)
  tell_one a t i false e = (tt, refl)

  -- one row after another
  tells_join : (t u w : Table V M) (xs ys : List (Moment V M)) → Tells t xs u → Tells u ys w → Tells t (xs ++ ys) w
  unfolding Tells
  tells_join t u w xs ys a b = (
    join k t xs ys a.0 (subst (λ (x : Table V M). Follows k x ys) (sym a.1) b.0),
    ending_join k t xs ys ∙ ap (λ (x : Table V M). ending k x ys) a.1 ∙ b.1,
  )

  tells_sound : (t u : Table V M) (xs : List (Moment V M)) → Sound k t → Tells t xs u → Sound k u
  unfolding Tells
  tells_sound t u xs i a = subst (λ (x : Table V M). Sound k x) a.1 (still_sound k t xs i a.0).0

  -- some acts, and some calls
  tell : (xs : List (Act V)) (t : Table V M) → Sound k t → Tells t (moments k xs t) (after k xs t)
  unfolding Tells
  tell [] t i = (tt, refl)
  tell (a ∷ xs) t i =
      let x : Tells t (moment k a t) (tried k a t) = tell_one a t i (passes k a t) refl in
      tells_join t (tried k a t) (after k xs (tried k a t)) (moment k a t) (moments k xs (tried k a t)) x
      (tell xs (tried k a t) (tells_sound t (tried k a t) (moment k a t) i x))

  tell_calls : (cs : List (Call V)) (t : Table V M) → Sound k t → Tells t (history k cs t) (after_calls k cs t)
  unfolding Tells
  tell_calls [] t i = (tt, refl)
  tell_calls (c ∷ cs) t i =
      let u : Table V M = after k (acts c t) t in
      let x : Tells t (moments k (acts c t) t) u = tell (acts c t) t i in
      tells_join t u (after_calls k cs u) (moments k (acts c t) t) (history k cs u) x
      (tell_calls cs u (tells_sound t u (moments k (acts c t) t) i x))

  -- a new table is sound
  new_sound : (t : Table V M) → New k t → Sound k t
  new_sound t n = record {
    inner = record {
      counted = λ b.
          let a = n.unused b in
          let z : places k b t.store.reach t.store.cells ≡ 0 =
          places_none k b t.store.reach t.store.cells (λ p. ap (λ (x : Cell V). one k b x.value) (n.blanks p) ∙ ap (λ (s : Bool). cond s 1 0) (laws.zero_bare b)) in
          let y : entries k b t.saves.held ≡ 0 = ap (entries k b) n.bare in
          omega arith;
      low = λ m p h. let e = n.bottom in absurd (omega arith);
      inside = subst (λ (xs : List (Entry V)). Within t.store.reach xs) (sym n.bare) tt;
      far = n.reaches;
      small = let e : length t.saves.held ≡ 0 = ap length n.bare in let r = n.rooms in omega arith;
    };
    flat = λ p. let e = n.bottom in let d : (t.store.cells p).level ≡ 1 = ap (λ (x : Cell V). x.level) (n.blanks p) in omega arith;
    up = let e = n.bottom in omega arith;
  }

  module _ (t : Table V M) (n : New k t) (calls : List (Call V)) where
    -- all that the calls carry out is a row of steps
    follows : Follows k t (history k calls t)
    unfolding Tells
    follows = (tell_calls calls t (new_sound t n)).0

    -- at its close, a group has set each register as its last global assignment did, or else as at its opening
    last : (opening closing : Moment V M) (inside : List (Moment V M)) →
        Spans (history k calls t) opening inside closing → (p : ℕ) → p < t.store.reach →
        reads k closing.table p ≡ last_global p (events inside) (reads k opening.table p)
    last o c inside g p h =
        group_kept k t g.before inside g.later o c (new_sound t n)
        (subst (λ (ms : List (Moment V M)). Follows k t ms) g.parts follows) g.begins g.matches g.ends p h

    -- the parts of the law
    groups_restore : GroupsRestore k t calls
    groups_restore o c inside g p h e = last o c inside g p h ∙ last_none p (events inside) (reads k o.table p) e

    groups_retain : GroupsRetain k t calls
    groups_retain o c inside g p h xs ys r d e =
        last o c inside g p h
        ∙ ap (λ (es : List Event). last_global p es (reads k o.table p)) d
        ∙ last_some p xs ys r (reads k o.table p) e

    closes_match : ClosesMatch k t calls
    closes_match earlier later c e ec =
        let f = split k t earlier (c ∷ later) (subst (λ (ms : List (Moment V M)). Follows k t ms) e follows) in
        let v : Table V M = ending k t earlier in
        let d : Does k end v c.table = subst (λ (x : Event). Does k x v c.table) ec f.1.0.does in
        let deep : 1 < v.level = d.2 in
        let one : t.level ≡ 1 = n.bottom in
        latest k t earlier f.0 (omega arith)

    counted_after : Counted k (after_calls k calls t)
    counted_after =
        let i = new_sound t n in
        (tells_sound t (after_calls k calls t) (history k calls t) i (tell_calls calls t i)).inner.counted

    counted_within : (before rest : List (Moment V M)) (now : Moment V M) → history k calls t ≡ before ++ (now ∷ rest) → Counted k now.table
    counted_within before rest now e =
        let f = split k t before (now ∷ rest) (subst (λ (ms : List (Moment V M)). Follows k t ms) e follows) in
        f.1.0.sound.inner.counted

  -- the law
  pub law : (t : Table V M) → Law k t
  law t n calls =
      (closes_match t n calls, groups_restore t n calls, groups_retain t n calls, (counted_after t n calls, counted_within t n calls))
