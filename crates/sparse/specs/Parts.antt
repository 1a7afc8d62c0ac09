-- Parts of all places: their halves, the branches that hold these, and what a change within a part leaves.
use Rattle.std.specs.Prelude.{◌≡◌, ℕ, suc, ◌+◌, ◌-◌, ◌<◌, ◌≤◌, max, List, None, Option, ◌≢◌}
use Rattle.std.specs.List.{slice_get}
use Rattle.sparse.specs.declared.node.Tip.{Tip}
use Rattle.sparse.specs.declared.part.Part.{Part}
use Rattle.sparse.specs.declared.part.Side.{Side}
use Rattle.sparse.specs.declared.part.Side.TheVariants.{Left, Right}
use Rattle.sparse.specs.Trees.{width, Tree, Apart}

-- the index at a side of a node
abbrev pub child : {V : Type 0} → Side → Tip V → ℕ
child Left t = t.left
child Right t = t.right

-- a node with another index at a side
abbrev pub with_child : {V : Type 0} → Side → ℕ → Tip V → Tip V
with_child Left i t = record { node = t.node; left = i; right = t.right }
with_child Right i t = record { node = t.node; left = t.left; right = i }

-- a place is at a side of the middle m
abbrev pub OnSide : Side → ℕ → ℕ → Type 0
OnSide Left p m = p < m
OnSide Right p m = m ≤ p

-- where a half with the middle m begins past the place p
abbrev pub half_low : Side → ℕ → ℕ → ℕ
half_low Left p m = p + 1
half_low Right p m = max (p + 1) m

-- where a half with the middle m of a part up to b ends
abbrev pub half_end : Side → ℕ → ℕ → ℕ
half_end Left m b = m
half_end Right m b = b

-- a part has all places below r
pub record IsWhole (r : ℕ) (q : Part) : Type 0 where
  pub level : q.level ≡ 18
  pub low : q.low ≡ 0
  pub end : q.end ≡ r

-- a part is the half of another at a side, past the place p
pub record IsHalf (s : Side) (p : ℕ) (whole half : Part) : Type 0 where
  pub up : whole.level ≡ suc half.level
  pub low : half.low ≡ half_low s p (whole.end - width half.level)
  pub end : half.end ≡ half_end s (whole.end - width half.level) whole.end

-- a part has the place p
abbrev pub InPart : Part → ℕ → Type 0
InPart q p = (q.low ≤ p) × (p < q.end)

-- the index i heads a tree of a part
abbrev pub TreeOf : {V : Type 0} → Part → List (Tip V) → ℕ → Type 0
TreeOf q ts i = Tree q.level ts q.low q.end i

-- what has no place in a part stands as it stood
abbrev pub KeptApart : {V : Type 0} → Part → List (Tip V) → List (Tip V) → Type 0
KeptApart q ts us = (j : ℕ) → Apart q.low q.end (slice_get ts j) → slice_get us j ≡ slice_get ts j

-- the side of the least node below another, whose left child holds the given node, if any
abbrev pub IsLower : {V : Type 0} → Side → Option (Tip V) → Type 0
IsLower Left o = o ≢ None
IsLower Right o = o ≡ None
