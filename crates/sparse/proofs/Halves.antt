-- The tree of a part, and those of its halves.
use Rattle.std.proofs.Common.{◌≡◌, ℕ, zero, suc, ◌-◌, ◌<◌, ◌≤◌, List, Some, Option, sym, subst, arith}
use Rattle.std.specs.List.{slice_get}
use Rattle.sparse.specs.declared.node.Tip.{Tip}
use Rattle.sparse.specs.declared.part.Part.{Part}
use Rattle.sparse.specs.declared.part.Side.{Side}
use Rattle.sparse.specs.declared.part.Side.TheVariants.{Left, Right}
use Rattle.sparse.specs.Parts.{child, OnSide, half_low, half_end, IsHalf, IsWhole, TreeOf}
use Rattle.sparse.specs.Trees.{width, Tree, Within}
use Rattle.sparse.proofs.Frames.{top, rooted}

-- what holds of the numbers of a half holds of the half
pub at_half : (S : ℕ → ℕ → ℕ → Type 0) (s : Side) (u : ℕ) (q h : Part) → IsHalf s u q h
    → S (suc h.level) (half_low s u (q.end - width h.level)) (half_end s (q.end - width h.level) q.end) → S q.level h.low h.end
at_half S s u q h half x =
    subst (λ (n : ℕ). S n h.low h.end) (sym half.up)
    (subst (λ (a : ℕ). S (suc h.level) a h.end) (sym half.low)
    (subst (λ (b : ℕ). S (suc h.level) (half_low s u (q.end - width h.level)) b) (sym half.end) x))

-- what holds of all places below r holds of the part that has them, and back
pub at_whole : (S : ℕ → ℕ → ℕ → Type 0) (r : ℕ) (q : Part) → IsWhole r q → S 18 0 r → S q.level q.low q.end
at_whole S r q whole x = subst (λ (n : ℕ). S n q.low q.end) (sym whole.level) (subst (λ (a : ℕ). S 18 a q.end) (sym whole.low) (subst (λ (b : ℕ). S 18 0 b) (sym whole.end) x))

pub from_whole : (S : ℕ → ℕ → ℕ → Type 0) (r : ℕ) (q : Part) → IsWhole r q → S q.level q.low q.end → S 18 0 r
from_whole S r q whole x = subst (λ (n : ℕ). S n 0 r) whole.level (subst (λ (a : ℕ). S q.level a r) whole.low (subst (λ (b : ℕ). S q.level q.low b) whole.end x))

-- the side of a place, by the level of a half
pub on_half : (s r : Side) (u p : ℕ) (q h : Part) → IsHalf s u q h → OnSide r p (q.end - width (q.level - 1)) → OnSide r p (q.end - width h.level)
on_half s r u p q h half o =
    let e : q.level - 1 ≡ h.level = let up = half.up in omega arith in
    subst (λ (n : ℕ). OnSide r p (q.end - width n)) e o

-- a half lies past the place, and in the part
pub past_low : (s : Side) (u mid : ℕ) → u < half_low s u mid
past_low Left u mid = omega arith
past_low Right u mid = omega arith

pub half_past : (s : Side) (u : ℕ) (q h : Part) → IsHalf s u q h → u < h.low
half_past s u q h half = at_half (λ n c d. u < c) s u q h half (past_low s u (q.end - width h.level))

pub end_in : (s : Side) (w b : ℕ) → half_end s (b - w) b ≤ b
end_in Left w b = omega arith
end_in Right w b = omega arith

pub half_within : (s : Side) (u : ℕ) (q h : Part) → IsHalf s u q h → h.end ≤ q.end
half_within s u q h half = at_half (λ n c d. d ≤ q.end) s u q h half (end_in s (width h.level) q.end)

-- a place past another that is at a side is in that half
in_side : (s : Side) (u p w b : ℕ) → u < p → p < b → OnSide s p (b - w) → (half_low s u (b - w) ≤ p) × (p < half_end s (b - w) b)
in_side Left u p w b l e o = (omega arith, o)
in_side Right u p w b l e o = (omega arith, e)

pub half_holds : (s : Side) (u p : ℕ) (q h : Part) → IsHalf s u q h → u < p → p < q.end → OnSide s p (q.end - width (q.level - 1)) → (h.low ≤ p) × (p < h.end)
half_holds s u p q h half l e o = at_half (λ n c d. (c ≤ p) × (p < d)) s u q h half (in_side s u p (width h.level) q.end l e (on_half s s u p q h half o))

module _ {V : Type 0} where
  -- a tree's head is in its range
  head_in : (n : ℕ) (ts : List (Tip V)) (a b i : ℕ) → Tree n ts a b i → Within a b (slice_get ts i)
  head_in zero ts a b i h = subst (λ (o : Option (Tip V)). Within a b o) (sym h) tt
  head_in (suc n) ts a b i h = top (slice_get ts i) (width n) a b (Tree n ts) h

  pub stands : (q : Part) (ts : List (Tip V)) (at : ℕ) (t : Tip V) → slice_get ts at ≡ Some t → TreeOf q ts at → Within q.low q.end (Some t)
  stands q ts at t now tree = subst (λ (o : Option (Tip V)). Within q.low q.end o) now (head_in q.level ts q.low q.end at tree)

  -- the tree of a half
  pub half_at : (s : Side) (m : ℕ) (ts : List (Tip V)) (at a b : ℕ) (t : Tip V) → slice_get ts at ≡ Some t → Tree (suc m) ts a b at
      → Tree m ts (half_low s t.node.place (b - width m)) (half_end s (b - width m) b) (child s t)
  half_at Left m ts at a b t now tree = (rooted m ts at a b t now tree).2
  half_at Right m ts at a b t now tree = (rooted m ts at a b t now tree).3

  pub half_tree : (s : Side) (q h : Part) (ts : List (Tip V)) (at : ℕ) (t : Tip V) → IsHalf s t.node.place q h → slice_get ts at ≡ Some t → TreeOf q ts at → TreeOf h ts (child s t)
  half_tree s q h ts at t half now tree =
      at_half (λ n c d. Tree n ts q.low q.end at → Tree h.level ts c d (child s t)) s t.node.place q h half (half_at s h.level ts at q.low q.end t now) tree
