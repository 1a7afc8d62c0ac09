-- An assignment keeps tables sound, and the promises to their registers.
use Rattle.std.proofs.Common.{◌≡◌, ℕ, suc, ◌+◌, ◌<◌, ◌≤◌, Bool, true, false, cond, eqb, ◌⊎◌, ◌∷◌, sym, refl, ap, ◌∙◌, subst, inl, inr, arith, ne_eqb, eqb-true}
use Rattle.std.proofs.lemmas.Bool.{cases_Bool}
use Rattle.tokens.specs.Limits.{top_uses}
use Rattle.values.specs.Ops.{Ops, one}
use Rattle.values.specs.Laws.{Laws}
use Rattle.stores.specs.Cells.{cell}
use Rattle.stores.specs.Stores.{put}
use Rattle.stores.specs.declared.cell.Cell.{Cell}
use Rattle.save_stack.specs.declared.entry.Entry.TheVariants.{Saved}
use Rattle.engine.specs.Tables.{Table}
use Rattle.engine.specs.Acts.{Source, value_of, reading_of, pool_of}
use Rattle.laws.specs.Law.{places, entries}
use Rattle.laws.proofs.Fates.{back, fate, fate_global, forget}
use Rattle.laws.proofs.Places.{places_most, entries_most, place_held, put_below}
use Rattle.laws.proofs.Invariants.{Inner, Sound, promise, Rests, fate_rests}
use Rattle.laws.proofs.Grants.{Good, placed}
use Rattle.laws.proofs.Sources.{uses_taken, keeps_taken, keeps_dropped, reads_dropped}

module _ {V M : Type 0} (k : Ops V M) (laws : Laws k) where
  -- no count is near its limit
  few_uses : (t : Table V M) → Inner k t → (b : ℕ) → k.uses t.pool b < top_uses
  few_uses t i b =
      let a = places_most k b t.store.reach t.store.cells in
      let c = entries_most k b t.saves.held in
      let d = i.counted b in
      let e = i.far in
      let f = i.small in
      omega arith

  module _ (t : Table V M) (i : Sound k t) (p : ℕ) (s : Source V) (ok : Good k s t.pool p) (at : p < t.store.reach) where
    -- the counts where the old value's use is dropped
    counted_over : (l b : ℕ) → k.uses (k.dropped (t.store.cells p).value (k.taken (value_of k s) (pool_of k s t.pool))) b
        ≡ places k b t.store.reach (put t.store.cells p (cell (value_of k s) l)) + entries k b t.saves.held
    counted_over l b =
        let w : M = k.taken (value_of k s) (pool_of k s t.pool) in
        let a = uses_taken k laws s t.pool p ok (few_uses t i.inner) b in
        let c = i.inner.counted b in
        let g = place_held k b t.store.reach p t.store.cells at in
        let d = laws.dropped_uses (t.store.cells p).value w b (omega arith) in
        let h = put_below k b t.store.reach p t.store.cells (cell (value_of k s) l) at in
        omega arith

    -- and where it moves into the entry
    counted_saved : (l b : ℕ) → k.uses (k.taken (value_of k s) (pool_of k s t.pool)) b
        ≡ places k b t.store.reach (put t.store.cells p (cell (value_of k s) l)) + (one k b (t.store.cells p).value + entries k b t.saves.held)
    counted_saved l b =
        let a = uses_taken k laws s t.pool p ok (few_uses t i.inner) b in
        let c = i.inner.counted b in
        let h = put_below k b t.store.reach p t.store.cells (cell (value_of k s) l) at in
        omega arith

    -- the cell at the place is the new one, the others stay
    at_p : (l q : ℕ) → eqb p q ≡ true → put t.store.cells p (cell (value_of k s) l) q ≡ cell (value_of k s) l
    at_p l q e = ap (λ (b : Bool). cond b (cell (value_of k s) l) (t.store.cells q)) e

    off_p : (l q : ℕ) → eqb p q ≡ false → put t.store.cells p (cell (value_of k s) l) q ≡ t.store.cells q
    off_p l q e = ap (λ (b : Bool). cond b (cell (value_of k s) l) (t.store.cells q)) e

    -- no cell is above the level
    flat_put : (l : ℕ) → l ≤ t.level → (q : ℕ) → (put t.store.cells p (cell (value_of k s) l) q).level ≤ t.level
    flat_put l h q = elim (cases_Bool (eqb p q)) [
      | inl e ↦ let d : (put t.store.cells p (cell (value_of k s) l) q).level ≡ l = ap (λ (x : Cell V). x.level) (at_p l q e) in omega arith
      | inr e ↦ let d : (put t.store.cells p (cell (value_of k s) l) q).level ≡ (t.store.cells q).level = ap (λ (x : Cell V). x.level) (off_p l q e) in
          let g = i.flat q in omega arith
    ]

    -- what becomes of cells where the value is put globally
    global_at : (n q : ℕ) → eqb p q ≡ true → fate n q t.saves.held (put t.store.cells p (cell (value_of k s) 1) q) ≡ cell (value_of k s) 1
    global_at n q e = ap (fate n q t.saves.held) (at_p 1 q e) ∙ fate_global n q t.saves.held (cell (value_of k s) 1) refl

    global_off : (n q : ℕ) → eqb p q ≡ false → fate n q t.saves.held (put t.store.cells p (cell (value_of k s) 1) q) ≡ fate n q t.saves.held (t.store.cells q)
    global_off n q e = ap (fate n q t.saves.held) (off_p 1 q e)

    -- a global assignment keeps the table sound, and sets the promises of its register
    pub sound_global : Sound k (placed k false true t p s)
    sound_global = record {
      inner = record {
        counted = counted_over 1;
        low = λ n q h. elim (cases_Bool (eqb p q)) [
          | inl e ↦ let d : (fate (suc n) q t.saves.held (put t.store.cells p (cell (value_of k s) 1) q)).level ≡ 1 = ap (λ (x : Cell V). x.level) (global_at (suc n) q e) in
              omega arith
          | inr e ↦ subst (λ (x : Cell V). x.level + suc n ≤ t.level) (sym (global_off (suc n) q e)) (i.inner.low n q h)
        ];
        inside = i.inner.inside;
        far = i.inner.far;
        small = i.inner.small;
      };
      flat = flat_put 1 i.up;
      up = i.up;
    }

    pub promise_global : (n q : ℕ) → q < t.store.reach →
        promise k (suc n) (placed k false true t p s) q ≡ cond (eqb p q) (reading_of k s t.pool p) (promise k (suc n) t q)
    promise_global n q h =
        let u : Table V M = placed k false true t p s in
        let y : Cell V = fate (suc n) q t.saves.held (put t.store.cells p (cell (value_of k s) 1) q) in
        let d : Rests k y.value u.pool = fate_rests k u sound_global.inner (suc n) q h in
        let old : V = (t.store.cells p).value in
        elim (cases_Bool (eqb p q)) [
          | inl e ↦
              let a : Rests k (value_of k s) u.pool = subst (λ (x : Cell V). Rests k x.value u.pool) (global_at (suc n) q e) d in
              ap (λ (x : Cell V). k.reads x.value u.pool q) (global_at (suc n) q e)
              ∙ ap (k.reads (value_of k s) u.pool) (sym (eqb-true p q e))
              ∙ reads_dropped k laws s t.pool p ok (few_uses t i.inner) old a
              ∙ sym (ap (λ (b : Bool). cond b (reading_of k s t.pool p) (promise k (suc n) t q)) e)
          | inr e ↦
              let z : Cell V = fate (suc n) q t.saves.held (t.store.cells q) in
              let a : Rests k z.value u.pool = subst (λ (x : Cell V). Rests k x.value u.pool) (global_off (suc n) q e) d in
              ap (λ (x : Cell V). k.reads x.value u.pool q) (global_off (suc n) q e)
              ∙ keeps_dropped k laws s t.pool p ok (few_uses t i.inner) old z.value q (fate_rests k t i.inner (suc n) q h) a
              ∙ sym (ap (λ (b : Bool). cond b (reading_of k s t.pool p) (promise k (suc n) t q)) e)
        ]

    -- where the old cell is saved, it comes back
    saved_cell : 1 < t.level → (q : ℕ) →
        (let x : Cell V = put t.store.cells p (cell (value_of k s) t.level) q in cond (eqb p q) (back (t.store.cells p) x) x) ≡ t.store.cells q
    saved_cell h q =
        let new : Cell V = cell (value_of k s) t.level in
        let x : Cell V = put t.store.cells p new q in
        let far : eqb t.level 1 ≡ false = ne_eqb t.level 1 (λ d. omega arith) in
        elim (cases_Bool (eqb p q)) [
          | inl e ↦
              ap (λ (b : Bool). cond b (back (t.store.cells p) x) x) e
              ∙ ap (back (t.store.cells p)) (at_p t.level q e)
              ∙ ap (λ (b : Bool). cond b new (t.store.cells p)) far
              ∙ ap t.store.cells (eqb-true p q e)
          | inr e ↦ ap (λ (b : Bool). cond b (back (t.store.cells p) x) x) e ∙ off_p t.level q e
        ]

    saved_fate : 1 < t.level → (n q : ℕ) →
        fate (suc n) q (Saved p (t.store.cells p) ∷ t.saves.held) (put t.store.cells p (cell (value_of k s) t.level) q) ≡ fate (suc n) q t.saves.held (t.store.cells q)
    saved_fate h n q = ap (fate (suc n) q t.saves.held) (saved_cell h q)

    -- an assignment that saves the old cell keeps the table sound, and all promises
    pub sound_saved : 1 < t.level → 0 < t.saves.room → Sound k (placed k true false t p s)
    sound_saved h room = record {
      inner = record {
        counted = counted_saved t.level;
        low = λ n q d. subst (λ (x : Cell V). x.level + suc n ≤ t.level) (sym (saved_fate h n q)) (i.inner.low n q d);
        inside = (at, i.inner.inside);
        far = i.inner.far;
        small = let g = i.inner.small in omega arith;
      };
      flat = flat_put t.level (omega arith);
      up = i.up;
    }

    pub promise_saved : (h : 1 < t.level) (room : 0 < t.saves.room) (n q : ℕ) → q < t.store.reach →
        promise k (suc n) (placed k true false t p s) q ≡ promise k (suc n) t q
    promise_saved h room n q d =
        let u : Table V M = placed k true false t p s in
        let z : Cell V = fate (suc n) q t.saves.held (t.store.cells q) in
        ap (λ (x : Cell V). k.reads x.value u.pool q) (saved_fate h n q)
        ∙ keeps_taken k laws s t.pool p ok (few_uses t i.inner) z.value q (fate_rests k t i.inner (suc n) q d)

    -- a cell of this level may be replaced, since its entry is older
    over_fate : ((t.store.cells p).level ≡ t.level) → (n q : ℕ) → suc n < t.level →
        fate (suc n) q t.saves.held (put t.store.cells p (cell (value_of k s) t.level) q) ≡ fate (suc n) q t.saves.held (t.store.cells q)
    over_fate same n q h =
        let new : Cell V = cell (value_of k s) t.level in
        elim (cases_Bool (eqb p q)) [
          | inl e ↦
              let here : (t.store.cells q).level ≡ t.level = ap (λ (j : ℕ). (t.store.cells j).level) (sym (eqb-true p q e)) ∙ same in
              let a : eqb t.level 1 ≡ false = ne_eqb t.level 1 (λ d. omega arith) in
              let b : eqb (t.store.cells q).level 1 ≡ false = ne_eqb (t.store.cells q).level 1 (λ d. omega arith) in
              ap (fate (suc n) q t.saves.held) (at_p t.level q e)
              ∙ (let f : fate (suc n) q t.saves.held new ≡ fate (suc n) q t.saves.held (t.store.cells q) =
              elim (forget n q t.saves.held (t.store.cells q) new b a) [
                | inl g ↦ sym g
                | inr g ↦
                    let c : (fate 1 q t.saves.held (t.store.cells q)).level ≡ (t.store.cells q).level = ap (λ (x : Cell V). x.level) g in
                    let d = i.inner.low 0 q (omega arith) in
                    absurd (omega arith)
              ] in f)
          | inr e ↦ ap (fate (suc n) q t.saves.held) (off_p t.level q e)
        ]

    -- an assignment that saves nothing, as there is no group or the cell is of this level, does so too
    pub sound_over : (t.level ≤ 1 ⊎ (t.store.cells p).level ≡ t.level) → Sound k (placed k false false t p s)
    sound_over c = record {
      inner = record {
        counted = counted_over t.level;
        low = λ n q d. elim c [
          | inl h ↦ absurd (omega arith)
          | inr same ↦ subst (λ (x : Cell V). x.level + suc n ≤ t.level) (sym (over_fate same n q d)) (i.inner.low n q d)
        ];
        inside = i.inner.inside;
        far = i.inner.far;
        small = i.inner.small;
      };
      flat = flat_put t.level (omega arith);
      up = i.up;
    }

    pub promise_over : (t.level ≤ 1 ⊎ (t.store.cells p).level ≡ t.level) → (n q : ℕ) → suc n < t.level → q < t.store.reach →
        promise k (suc n) (placed k false false t p s) q ≡ promise k (suc n) t q
    promise_over c n q l h = elim c [
      | inl g ↦ absurd (omega arith)
      | inr same ↦
          let u : Table V M = placed k false false t p s in
          let z : Cell V = fate (suc n) q t.saves.held (t.store.cells q) in
          let a : Rests k z.value u.pool = subst (λ (x : Cell V). Rests k x.value u.pool) (over_fate same n q l) (fate_rests k u (sound_over (inr same)).inner (suc n) q h) in
          ap (λ (x : Cell V). k.reads x.value u.pool q) (over_fate same n q l)
          ∙ keeps_dropped k laws s t.pool p ok (few_uses t i.inner) (t.store.cells p).value z.value q (fate_rests k t i.inner (suc n) q h) a
    ]
