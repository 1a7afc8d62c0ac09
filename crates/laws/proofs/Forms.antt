-- Writes and pushes that are not refused.
use Rattle.std.proofs.Common.{◌≡◌, ℕ, ◌-◌, Bool, true, false, cond, ltb, ◌∷◌, ap, ◌∙◌}
use Rattle.stores.specs.Cells.{is_blank}
use Rattle.stores.specs.Stores.{StoreModel, full, written, refilled, writes}
use Rattle.stores.specs.declared.cell.Cell.{Cell}
use Rattle.save_stack.specs.Stacks.{StackModel, is_full, pushed}

-- a write below the reach that needs no spare, or has it
pub writes_is : {V : Type 0} (z : V → Bool) (s : StoreModel V) (p : ℕ) (c : Cell V) → ltb p s.reach ≡ true → full z s p (is_blank z c) ≡ false →
    writes z s p c ≡ written z s p c
writes_is z s p c e d = ap (λ (b : Bool). cond b (refilled z s p c) s) e ∙ ap (λ (b : Bool). cond b s (written z s p c)) d

-- a stack with one entry more
abbrev pub topped : {E : Type 0} → StackModel E → E → StackModel E
topped s e = record { held = e ∷ s.held; room = s.room - 1 }

-- a push onto a stack with room
pub pushed_is : {E : Type 0} (s : StackModel E) (e : E) → is_full s ≡ false → pushed s e ≡ topped s e
pushed_is s e d = ap (λ (b : Bool). cond b s (topped s e)) d
