-- What becomes of a cell as groups close.
use Rattle.std.proofs.Common.{◌≡◌, ℕ, zero, suc, ◌+◌, ◌≤◌, Bool, true, false, cond, eqb, ◌⊎◌, List, [], ◌∷◌, sym, refl, ap, ◌∙◌, inl, inr, arith}
use Rattle.values.specs.Ops.{Ops, one}
use Rattle.stores.specs.declared.cell.Cell.{Cell}
use Rattle.save_stack.specs.declared.entry.Entry.{Entry}
use Rattle.save_stack.specs.declared.entry.Entry.TheVariants.{Saved, Held, Boundary}
use Rattle.laws.specs.Law.{entries}

-- a saved cell goes back unless the present one is at level 1
abbrev pub back : {V : Type 0} → Cell V → Cell V → Cell V
back c x = cond (eqb x.level 1) x c

-- the cell at q, now x, once n groups are closed
abbrev pub fate : {V : Type 0} → ℕ → ℕ → List (Entry V) → Cell V → Cell V
fate zero q es x = x
fate (suc n) q [] x = x
fate (suc n) q (Saved p c ∷ es) x = fate (suc n) q es (cond (eqb p q) (back c x) x)
fate (suc n) q (Held c ∷ es) x = fate (suc n) q es x
fate (suc n) q (Boundary g ∷ es) x = fate n q es x

module _ {V : Type 0} where
  -- a cell at level 1 stays where another comes off the stack
  stays : (b : Bool) (c x : Cell V) → eqb x.level 1 ≡ true → cond b (back c x) x ≡ x
  stays true c x e = ap (λ (b : Bool). cond b x c) e
  stays false c x e = refl

  -- a cell at level 1 stays
  pub fate_global : (n q : ℕ) (es : List (Entry V)) (x : Cell V) → eqb x.level 1 ≡ true → fate n q es x ≡ x
  fate_global zero q es x e = refl
  fate_global (suc n) q [] x e = refl
  fate_global (suc n) q (Saved p c ∷ es) x e = ap (fate (suc n) q es) (stays (eqb p q) c x e) ∙ fate_global (suc n) q es x e
  fate_global (suc n) q (Held c ∷ es) x e = fate_global (suc n) q es x e
  fate_global (suc n) q (Boundary g ∷ es) x e = fate_global n q es x e

  -- one entry of `forget`
  forget_at : (b : Bool) (n q : ℕ) (c : Cell V) (es : List (Entry V)) (x y : Cell V) → eqb x.level 1 ≡ false → eqb y.level 1 ≡ false →
      ((fate (suc n) q es x ≡ fate (suc n) q es y) ⊎ (fate 1 q es x ≡ x)) →
      (fate (suc n) q es (cond b (back c x) x) ≡ fate (suc n) q es (cond b (back c y) y)) ⊎ (fate 1 q es (cond b (back c x) x) ≡ x)
  forget_at true n q c es x y e d h =
      inl (ap (fate (suc n) q es) (ap (λ (b : Bool). cond b x c) e ∙ sym (ap (λ (b : Bool). cond b y c) d)))
  forget_at false n q c es x y e d h = h

  -- at the end of the group a cell above level 1 is forgotten, or nothing is saved of it there and it stays
  pub forget : (n q : ℕ) (es : List (Entry V)) (x y : Cell V) → eqb x.level 1 ≡ false → eqb y.level 1 ≡ false →
      (fate (suc n) q es x ≡ fate (suc n) q es y) ⊎ (fate 1 q es x ≡ x)
  forget n q [] x y e d = inr refl
  forget n q (Saved p c ∷ es) x y e d = forget_at (eqb p q) n q c es x y e d (forget n q es x y e d)
  forget n q (Held c ∷ es) x y e d = forget n q es x y e d
  forget n q (Boundary g ∷ es) x y e d = inr refl

module _ {V M : Type 0} (k : Ops V M) where
  -- what goes back, or stays, is one of the two
  back_held : (s t : Bool) (b : ℕ) (c x : Cell V) → one k b (cond s (cond t x c) x).value ≤ one k b x.value + one k b c.value
  back_held true true b c x = omega arith
  back_held true false b c x = omega arith
  back_held false t b c x = omega arith

  -- what a cell becomes is held by the register or an entry
  pub fate_held : (b n q : ℕ) (es : List (Entry V)) (x : Cell V) → one k b (fate n q es x).value ≤ one k b x.value + entries k b es
  fate_held b zero q es x = omega arith
  fate_held b (suc n) q [] x = omega arith
  fate_held b (suc n) q (Saved p c ∷ es) x =
      let h = fate_held b (suc n) q es (cond (eqb p q) (back c x) x) in
      let g = back_held (eqb p q) (eqb x.level 1) b c x in
      omega arith
  fate_held b (suc n) q (Held c ∷ es) x = fate_held b (suc n) q es x
  fate_held b (suc n) q (Boundary g ∷ es) x = fate_held b n q es x
