-- Rows of steps: levels, and what a group keeps.
use Rattle.std.proofs.Common.{◌≡◌, ℕ, zero, suc, ◌+◌, ◌<◌, ◌≤◌, true, List, [], ◌∷◌, ◌++◌, sym, refl, ap, ◌∙◌, subst, inl, inr, arith}
use Rattle.values.specs.Ops.{Ops}
use Rattle.engine.specs.Tables.{Table}
use Rattle.laws.specs.Histories.{Event, begin, end, global, other, Moment, events, balanced, Opened}
use Rattle.laws.specs.Law.{reads}
use Rattle.laws.proofs.Invariants.{Sound, promise}
use Rattle.laws.proofs.Steps.{Does, Step}
use Rattle.laws.proofs.Rows.{last_global, row}

module _ {V M : Type 0} (k : Ops V M) where
  -- a row of moments, each a step from the one before
  abbrev pub Follows : Table V M → List (Moment V M) → Type 0
  Follows t [] = Unit
  Follows t (m ∷ ms) = Step k m.what t m.table × Follows m.table ms

  -- the table after them
  abbrev pub ending : Table V M → List (Moment V M) → Table V M
  ending t [] = t
  ending t (m ∷ ms) = ending m.table ms

  -- rows joined, and taken apart
  pub join : (t : Table V M) (xs ys : List (Moment V M)) → Follows t xs → Follows (ending t xs) ys → Follows t (xs ++ ys)
  join t [] ys a b = b
  join t (m ∷ xs) ys a b = (a.0, join m.table xs ys a.1 b)

  pub split : (t : Table V M) (xs ys : List (Moment V M)) → Follows t (xs ++ ys) → Follows t xs × Follows (ending t xs) ys
  split t [] ys a = (tt, a)
  split t (m ∷ xs) ys a = let b = split m.table xs ys a.1 in ((a.0, b.0), b.1)

  pub ending_join : (t : Table V M) (xs ys : List (Moment V M)) → ending t (xs ++ ys) ≡ ending (ending t xs) ys
  ending_join t [] ys = refl
  ending_join t (m ∷ xs) ys = ending_join m.table xs ys

  -- they keep a table sound
  pub still_sound : (t : Table V M) (ms : List (Moment V M)) → Sound k t → Follows t ms →
      Sound k (ending t ms) × ((ending t ms).store.reach ≡ t.store.reach)
  still_sound t [] i f = (i, refl)
  still_sound t (m ∷ ms) i f = let a = still_sound m.table ms f.0.sound f.1 in (a.0, a.1 ∙ f.0.reach)

  -- a row that ends each group it begins, and n more, lowers the level by n
  lowers_after : (e : Event) (es : List Event) (t u : Table V M) (n l : ℕ) → Does k e t u →
      ((j : ℕ) → balanced j es ≡ true → l + j ≡ u.level) → balanced n (e ∷ es) ≡ true → l + n ≡ t.level
  lowers_after begin es t u n l d ih b = let a = d.0 in let c = ih (suc n) b in omega arith
  lowers_after end es t u zero l d ih b = cc
  lowers_after end es t u (suc n) l d ih b = let a = d.0 in let g = d.2 in let c = ih n b in omega arith
  lowers_after (global p r) es t u n l d ih b = let a = d.0 in let c = ih n b in omega arith
  lowers_after other es t u n l d ih b = let a = d.0 in let c = ih n b in omega arith

  lowers : (ms : List (Moment V M)) (t : Table V M) → Follows t ms → (n : ℕ) → balanced n (events ms) ≡ true → (ending t ms).level + n ≡ t.level
  lowers [] t f zero b = omega arith
  lowers [] t f (suc n) b = cc
  lowers (m ∷ ms) t f n b =
      lowers_after m.what (events ms) t m.table n (ending m.table ms).level f.0.does (lowers ms m.table f.1) b

  -- a row that ends higher has a latest opening
  pub latest : (t : Table V M) (ms : List (Moment V M)) → Follows t ms → t.level < (ending t ms).level → Opened ms
  latest t ms f h = elim (row ms) [
    | inl x ↦ let a = lowers ms t f x.0 x.1 in absurd (omega arith)
    | inr x ↦ x
  ]

  -- inside a group, at n groups within it: what a register is promised for its end
  Kept : Table V M → Table V M → ℕ → List Event → Type 0
  Kept t v q es = (n : ℕ) → balanced n es ≡ true → suc n < t.level → promise k 1 v q ≡ last_global q es (promise k (suc n) t q)

  -- one moment more at the front
  kept_after : (e : Event) (es : List Event) (t u v : Table V M) (q : ℕ) → q < t.store.reach → Does k e t u → Kept u v q es → Kept t v q (e ∷ es)
  unfolding Kept
  kept_after begin es t u v q h d ih n b l =
      let a = d.0 in
      ih (suc n) b (omega arith) ∙ ap (last_global q es) (d.1 (suc n) q)
  kept_after end es t u v q h d ih zero b l = cc
  kept_after end es t u v q h d ih (suc n) b l =
      let a = d.0 in
      ih n b (omega arith) ∙ ap (last_global q es) (d.1 (suc n) q h)
  kept_after (global p r) es t u v q h d ih n b l =
      let a = d.0 in
      ih n b (omega arith) ∙ ap (last_global q es) (d.1 n q l h)
  kept_after other es t u v q h d ih n b l =
      let a = d.0 in
      ih n b (omega arith) ∙ ap (last_global q es) (d.1 n q l h)

  kept : (ms : List (Moment V M)) (t : Table V M) → Follows t ms → (q : ℕ) → q < t.store.reach → Kept t (ending t ms) q (events ms)
  unfolding Kept
  kept [] t f q h zero b l = refl
  kept [] t f q h (suc n) b l = cc
  kept (m ∷ ms) t f q h n b l =
      kept_after m.what (events ms) t m.table (ending m.table ms) q h f.0.does
      (kept ms m.table f.1 q (let a = f.0.reach in omega arith)) n b l

  -- a group, from its opening to its close
  pub group_kept : (t : Table V M) (before inside rest : List (Moment V M)) (o c : Moment V M) → Sound k t →
      Follows t (before ++ (o ∷ (inside ++ (c ∷ rest)))) → o.what ≡ begin → balanced 0 (events inside) ≡ true → c.what ≡ end →
      (p : ℕ) → p < t.store.reach → reads k c.table p ≡ last_global p (events inside) (reads k o.table p)
  unfolding Kept
  group_kept t before inside rest o c i f eo b ec p h =
      let f1 = split t before (o ∷ (inside ++ (c ∷ rest))) f in
      let t1 : Table V M = ending t before in
      let s1 = still_sound t before i f1.0 in
      let so : Step k o.what t1 o.table = f1.1.0 in
      let f2 = split o.table inside (c ∷ rest) f1.1.1 in
      let s2 = still_sound o.table inside so.sound f2.0 in
      let v : Table V M = ending o.table inside in
      let sc : Step k c.what v c.table = f2.1.0 in
      let d : Does k begin t1 o.table = subst (λ (e : Event). Does k e t1 o.table) eo so.does in
      let g : Does k end v c.table = subst (λ (e : Event). Does k e v c.table) ec sc.does in
      let r1 : t1.store.reach ≡ t.store.reach = s1.1 in
      let r2 : o.table.store.reach ≡ t1.store.reach = so.reach in
      let r3 : v.store.reach ≡ o.table.store.reach = s2.1 in
      let up : 1 ≤ t1.level = s1.0.up in
      let lv : o.table.level ≡ t1.level + 1 = d.0 in
      let a : promise k 1 v p ≡ last_global p (events inside) (promise k 1 o.table p) = kept inside o.table f2.0 p (omega arith) 0 b (omega arith) in
      g.1 0 p (omega arith) ∙ a ∙ ap (last_global p (events inside)) (d.1 0 p ∙ sym (d.2 p))
