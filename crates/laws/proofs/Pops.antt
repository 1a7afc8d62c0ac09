-- A close, entry by entry.
use Rattle.std.proofs.Common.{◌≡◌, ℕ, zero, suc, ◌+◌, ◌-◌, ◌<◌, ◌≤◌, Bool, true, false, eqb, ltb, List, [], ◌∷◌, length, Option, sym, refl, ap, ◌∙◌, subst, arith, lt-ltb}
use Rattle.tokens.specs.declared.group.Group.{Group}
use Rattle.values.specs.Ops.{Ops}
use Rattle.values.specs.Laws.{Laws}
use Rattle.stores.specs.declared.cell.Cell.{Cell}
use Rattle.save_stack.specs.declared.entry.Entry.{Entry}
use Rattle.save_stack.specs.declared.entry.Entry.TheVariants.{Saved, Held, Boundary}
use Rattle.engine.specs.Tables.{Table}
use Rattle.engine.specs.Acts.{popped, unsaved, unheld, left, pops}
use Rattle.laws.specs.Law.{places, entries}
use Rattle.laws.proofs.Fates.{fate}
use Rattle.laws.proofs.Invariants.{Within, Inner, Sound, promise}
use Rattle.laws.proofs.Lifts.{lifted, lifts, Keeps, inner_stays, inner_back, keeps_stays, keeps_back}

-- a group is closed
pub record Shut {V M : Type 0} (k : Ops V M) (t u : Table V M) : Type 0 where
  pub sound : Sound k u
  pub level : u.level ≡ t.level - 1
  pub reach : u.store.reach ≡ t.store.reach
  pub kept : (n q : ℕ) → q < t.store.reach → promise k n u q ≡ promise k (suc n) t q

-- with nothing saved a cell stays
fate_nil : {V : Type 0} (n q : ℕ) (x : Cell V) → fate n q [] x ≡ x
fate_nil zero q x = refl
fate_nil (suc n) q x = refl

module _ {V M : Type 0} (k : Ops V M) (laws : Laws k) where
  -- one entry first
  shut_after : (t u w : Table V M) → u.level ≡ t.level → u.store.reach ≡ t.store.reach → Keeps k laws t u → Shut k u w → Shut k t w
  shut_after t u w l r h z = record {
    sound = z.sound;
    level = z.level ∙ ap (λ (n : ℕ). n - 1) l;
    reach = z.reach ∙ r;
    kept = λ n q d. z.kept n q (subst (λ (m : ℕ). q < m) (sym r) d) ∙ h n q d;
  }

  -- popping these entries closes a group
  Shuts : Bool → List (Entry V) → Type 0
  Shuts keep es = (u : Table V M) → u.saves.held ≡ es → Inner k u → 1 < u.level → Shut k u (pops k keep es u)

  -- a saved cell is the newest entry
  shut_saved : (keep : Bool) (p : ℕ) (c : Cell V) (es : List (Entry V)) → Shuts keep es →
      (t : Table V M) → t.saves.held ≡ Saved p c ∷ es → Inner k t → 1 < t.level →
      (s : Bool) → eqb (t.store.cells p).level 1 ≡ s → Shut k t (pops k keep es (lifted k s t p c es))
  unfolding Shuts
  shut_saved keep p c es ih t is i h true e =
      shut_after t (lifted k true t p c es) (pops k keep es (lifted k true t p c es)) refl refl (keeps_stays k laws t p c es is i e)
      (ih (lifted k true t p c es) refl (inner_stays k laws t p c es is i e) h)
  shut_saved keep p c es ih t is i h false e =
      shut_after t (lifted k false t p c es) (pops k keep es (lifted k false t p c es)) refl refl (keeps_back k laws t p c es is i e)
      (ih (lifted k false t p c es) refl (inner_back k laws t p c es is i e) h)

  -- a held token is
  shut_held : (keep : Bool) (c : ℕ) (es : List (Entry V)) → Shuts keep es →
      (t : Table V M) → t.saves.held ≡ Held c ∷ es → Inner k t → 1 < t.level → Shut k t (pops k keep es (unheld k keep t c es))
  unfolding Shuts
  shut_held keep c es ih t is i h =
      shut_after t (unheld k keep t c es) (pops k keep es (unheld k keep t c es)) refl refl
      (λ n q d. ap (λ (xs : List (Entry V)). k.reads (fate (suc n) q xs (t.store.cells q)).value t.pool q) (sym is))
      (ih (unheld k keep t c es) refl (record {
        counted = λ b. i.counted b ∙ ap (λ (xs : List (Entry V)). places k b t.store.reach t.store.cells + entries k b xs) is;
        low = λ n q d. subst (λ (xs : List (Entry V)). (fate (suc n) q xs (t.store.cells q)).level + suc n ≤ t.level) is (i.low n q d);
        inside = subst (λ (xs : List (Entry V)). Within t.store.reach xs) is i.inside;
        far = i.far;
        small = let e : length t.saves.held ≡ length (Held c ∷ es) = ap length is in let g = i.small in omega arith;
      }) h)

  -- the boundary is
  shut_boundary : (g : Option Group) (es : List (Entry V)) (t : Table V M) → t.saves.held ≡ Boundary g ∷ es → Inner k t → 1 < t.level → Shut k t (left k t g (popped k t es))
  shut_boundary g es t is i h = record {
    sound = record {
      inner = record {
        counted = λ b. i.counted b ∙ ap (λ (xs : List (Entry V)). places k b t.store.reach t.store.cells + entries k b xs) is;
        low = λ n q d.
            let a : (fate (suc n) q es (t.store.cells q)).level + suc (suc n) ≤ t.level =
            subst (λ (xs : List (Entry V)). (fate (suc (suc n)) q xs (t.store.cells q)).level + suc (suc n) ≤ t.level) is (i.low (suc n) q (omega arith)) in
            omega arith;
        inside = subst (λ (xs : List (Entry V)). Within t.store.reach xs) is i.inside;
        far = i.far;
        small = let e : length t.saves.held ≡ length (Boundary g ∷ es) = ap length is in let a = i.small in omega arith;
      };
      flat = λ q.
          let a : (t.store.cells q).level + 1 ≤ t.level =
          subst (λ (xs : List (Entry V)). (fate 1 q xs (t.store.cells q)).level + 1 ≤ t.level) is (i.low 0 q h) in
          omega arith;
      up = omega arith;
    };
    level = refl;
    reach = refl;
    kept = λ n q d. ap (λ (xs : List (Entry V)). k.reads (fate (suc n) q xs (t.store.cells q)).value t.pool q) (sym is);
  }

  -- nothing is on the stack
  shut_none : (t : Table V M) → t.saves.held ≡ [] → Inner k t → 1 < t.level → Shut k t (left k t t.group t.saves)
  shut_none t is i h =
      let still : (n q : ℕ) → fate n q t.saves.held (t.store.cells q) ≡ t.store.cells q =
      λ n q. ap (λ (xs : List (Entry V)). fate n q xs (t.store.cells q)) is ∙ fate_nil n q (t.store.cells q) in
      record {
        sound = record {
          inner = record {
            counted = i.counted;
            low = λ n q d.
                let a = i.low (suc n) q (omega arith) in
                let b = ap (λ (x : Cell V). x.level) (still (suc n) q) in
                let c = ap (λ (x : Cell V). x.level) (still (suc (suc n)) q) in
                omega arith;
            inside = i.inside;
            far = i.far;
            small = i.small;
          };
          flat = λ q. let a = i.low 0 q h in let b = ap (λ (x : Cell V). x.level) (still 1 q) in omega arith;
          up = omega arith;
        };
        level = refl;
        reach = refl;
        kept = λ n q d. ap (λ (x : Cell V). k.reads x.value t.pool q) (still n q ∙ sym (still (suc n) q));
      }

  -- a close
  pub shut : (keep : Bool) (es : List (Entry V)) (t : Table V M) → t.saves.held ≡ es → Inner k t → 1 < t.level → Shut k t (pops k keep es t)
  unfolding Shuts
  shut keep [] t is i h = shut_none t is i h
  shut keep (Saved p c ∷ es) t is i h =
      let s : Bool = eqb (t.store.cells p).level 1 in
      let at : p < t.store.reach = (subst (λ (xs : List (Entry V)). Within t.store.reach xs) is i.inside).0 in
      let e : unsaved k (ltb p t.store.reach) s t p c es ≡ lifted k s t p c es =
      lifts k t p c es s refl (lt-ltb p t.store.reach at) in
      subst (λ (u : Table V M). Shut k t (pops k keep es u)) (sym e) (shut_saved keep p c es (shut keep es) t is i h s refl)
  shut keep (Held c ∷ es) t is i h = shut_held keep c es (shut keep es) t is i h
  shut keep (Boundary g ∷ es) t is i h = shut_boundary g es t is i h
