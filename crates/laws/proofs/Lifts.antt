-- A saved cell comes off the stack.
use Rattle.std.proofs.Common.{◌≡◌, ℕ, suc, ◌+◌, ◌<◌, ◌≤◌, Bool, true, false, cond, not, ◌&&◌, eqb, ltb, List, ◌∷◌, length, sym, ap, ◌∙◌, subst, inl, inr, arith, eqb-true}
use Rattle.std.proofs.lemmas.Bool.{cases_Bool, and_left, and_right}
use Rattle.tokens.specs.Limits.{top_entries}
use Rattle.values.specs.Ops.{Ops, one}
use Rattle.values.specs.Laws.{Laws}
use Rattle.stores.specs.Cells.{is_blank}
use Rattle.stores.specs.Stores.{StoreModel, put, written}
use Rattle.stores.specs.declared.cell.Cell.{Cell}
use Rattle.save_stack.specs.declared.entry.Entry.{Entry}
use Rattle.save_stack.specs.declared.entry.Entry.TheVariants.{Saved}
use Rattle.engine.specs.Tables.{Table}
use Rattle.engine.specs.Acts.{popped, unsaved}
use Rattle.laws.specs.Law.{places, entries}
use Rattle.laws.proofs.Fates.{back, fate}
use Rattle.laws.proofs.Places.{place_held, put_below}
use Rattle.laws.proofs.Invariants.{Within, Inner, promise, Rests, rests_stands, fate_rests}
use Rattle.laws.proofs.Forms.{writes_is}

module _ {V : Type 0} (f : ℕ → Cell V) (p : ℕ) (c : Cell V) where
  -- the cell at q once the cell c that was saved at p is off the stack, where the present one stays
  off_stays : eqb (f p).level 1 ≡ true → (q : ℕ) → cond (eqb p q) (back c (f q)) (f q) ≡ f q
  off_stays e q = elim (cases_Bool (eqb p q)) [
    | inl d ↦
        let g : eqb (f q).level 1 ≡ true = ap (λ (i : ℕ). eqb (f i).level 1) (sym (eqb-true p q d)) ∙ e in
        ap (λ (s : Bool). cond s (back c (f q)) (f q)) d ∙ ap (λ (s : Bool). cond s (f q) c) g
    | inr d ↦ ap (λ (s : Bool). cond s (back c (f q)) (f q)) d
  ]

  -- and where the saved cell goes back
  off_back : eqb (f p).level 1 ≡ false → (q : ℕ) → cond (eqb p q) (back c (f q)) (f q) ≡ put f p c q
  off_back e q = elim (cases_Bool (eqb p q)) [
    | inl d ↦
        let g : eqb (f q).level 1 ≡ false = ap (λ (i : ℕ). eqb (f i).level 1) (sym (eqb-true p q d)) ∙ e in
        ap (λ (s : Bool). cond s (back c (f q)) (f q)) d ∙ ap (λ (s : Bool). cond s (f q) c) g ∙ sym (ap (λ (s : Bool). cond s c (f q)) d)
    | inr d ↦ ap (λ (s : Bool). cond s (back c (f q)) (f q)) d ∙ sym (ap (λ (s : Bool). cond s c (f q)) d)
  ]

-- the table once the saved cell is off, where its place is below the reach and the write is not refused
abbrev pub lifted : {V M : Type 0} → Ops V M → Bool → Table V M → ℕ → Cell V → List (Entry V) → Table V M
lifted k stays t p c es = record {
  store = cond stays t.store (written k.is_zero t.store p c);
  pool = k.dropped (cond stays c.value (t.store.cells p).value) t.pool;
  level = t.level;
  group = t.group;
  saves = popped k t es;
  pending = t.pending;
}

-- the table is that one: a cell above level 1 is not blank, so nothing blank is filled
pub lifts : {V M : Type 0} (k : Ops V M) (t : Table V M) (p : ℕ) (c : Cell V) (es : List (Entry V)) (s : Bool) →
    eqb (t.store.cells p).level 1 ≡ s → ltb p t.store.reach ≡ true → unsaved k (ltb p t.store.reach) s t p c es ≡ lifted k s t p c es
lifts k t p c es true e d = ap (λ (b : Bool). unsaved k b true t p c es) d
lifts {V} {M} k t p c es false e d =
    let f : StoreModel V → Table V M = λ x. record {
      store = x;
      pool = k.dropped (t.store.cells p).value t.pool;
      level = t.level;
      group = t.group;
      saves = popped k t es;
      pending = t.pending;
    } in
    ap (λ (b : Bool). unsaved k b false t p c es) d
    ∙ ap f (writes_is k.is_zero t.store p c d
    (and_left _ (not (is_blank k.is_zero c) && eqb t.store.spare 0) (and_right (k.is_zero (t.store.cells p).value) _ e)))

module _ {V M : Type 0} (k : Ops V M) (laws : Laws k) where
  -- from one table to another, each register keeps what it will read as once groups are closed
  abbrev pub Keeps : Table V M → Table V M → Type 0
  Keeps t u = (n q : ℕ) → q < t.store.reach → promise k (suc n) u q ≡ promise k (suc n) t q

  module _ (t : Table V M) (p : ℕ) (c : Cell V) (es : List (Entry V)) (is : t.saves.held ≡ Saved p c ∷ es) (s : Inner k t) where
    -- what the invariant says of the entries below
    counts : (b : ℕ) → k.uses t.pool b ≡ places k b t.store.reach t.store.cells + (one k b c.value + entries k b es)
    counts b = s.counted b ∙ ap (λ (xs : List (Entry V)). places k b t.store.reach t.store.cells + entries k b xs) is

    inside' : Within t.store.reach (Saved p c ∷ es)
    inside' = subst (λ (xs : List (Entry V)). Within t.store.reach xs) is s.inside

    small' : length es + (t.saves.room + 1) ≤ top_entries
    small' = let e : length t.saves.held ≡ length (Saved p c ∷ es) = ap length is in let h = s.small in omega arith

    -- what becomes of a register is the same
    fates_stays : eqb (t.store.cells p).level 1 ≡ true → (n q : ℕ) →
        fate (suc n) q t.saves.held (t.store.cells q) ≡ fate (suc n) q es (t.store.cells q)
    fates_stays e n q = ap (λ (xs : List (Entry V)). fate (suc n) q xs (t.store.cells q)) is
        ∙ ap (fate (suc n) q es) (off_stays t.store.cells p c e q)

    fates_back : eqb (t.store.cells p).level 1 ≡ false → (n q : ℕ) →
        fate (suc n) q t.saves.held (t.store.cells q) ≡ fate (suc n) q es (put t.store.cells p c q)
    fates_back e n q = ap (λ (xs : List (Entry V)). fate (suc n) q xs (t.store.cells q)) is
        ∙ ap (fate (suc n) q es) (off_back t.store.cells p c e q)

    -- the invariant holds again
    pub inner_stays : eqb (t.store.cells p).level 1 ≡ true → Inner k (lifted k true t p c es)
    inner_stays e = record {
      counted = λ b. let a = counts b in let d = laws.dropped_uses c.value t.pool b (omega arith) in omega arith;
      low = λ n q h. subst (λ (x : Cell V). x.level + suc n ≤ t.level) (fates_stays e n q) (s.low n q h);
      inside = inside'.1;
      far = s.far;
      small = small';
    }

    pub inner_back : eqb (t.store.cells p).level 1 ≡ false → Inner k (lifted k false t p c es)
    inner_back e = record {
      counted = λ b.
          let a = counts b in
          let g = place_held k b t.store.reach p t.store.cells inside'.0 in
          let d = laws.dropped_uses (t.store.cells p).value t.pool b (omega arith) in
          let h = put_below k b t.store.reach p t.store.cells c inside'.0 in
          omega arith;
      low = λ n q h. subst (λ (x : Cell V). x.level + suc n ≤ t.level) (fates_back e n q) (s.low n q h);
      inside = inside'.1;
      far = s.far;
      small = small';
    }

    -- and each register keeps its promise
    pub keeps_stays : eqb (t.store.cells p).level 1 ≡ true → Keeps t (lifted k true t p c es)
    keeps_stays e n q h =
        let u : Table V M = lifted k true t p c es in
        let y : V = (fate (suc n) q es (t.store.cells q)).value in
        let a : Rests k y t.pool = subst (λ (x : Cell V). Rests k x.value t.pool) (fates_stays e n q) (fate_rests k t s (suc n) q h) in
        let d : Rests k y u.pool = fate_rests k u (inner_stays e) (suc n) q h in
        laws.dropped_keeps c.value y t.pool q (rests_stands k laws y t.pool a) (rests_stands k laws y u.pool d)
        ∙ ap (λ (x : Cell V). k.reads x.value t.pool q) (sym (fates_stays e n q))

    pub keeps_back : eqb (t.store.cells p).level 1 ≡ false → Keeps t (lifted k false t p c es)
    keeps_back e n q h =
        let u : Table V M = lifted k false t p c es in
        let y : V = (fate (suc n) q es (put t.store.cells p c q)).value in
        let a : Rests k y t.pool = subst (λ (x : Cell V). Rests k x.value t.pool) (fates_back e n q) (fate_rests k t s (suc n) q h) in
        let d : Rests k y u.pool = fate_rests k u (inner_back e) (suc n) q h in
        laws.dropped_keeps (t.store.cells p).value y t.pool q (rests_stands k laws y t.pool a) (rests_stands k laws y u.pool d)
        ∙ ap (λ (x : Cell V). k.reads x.value t.pool q) (sym (fates_back e n q))
