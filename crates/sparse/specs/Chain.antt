-- Free nodes in a chain: each has its rank past every place as its place, and the next one as its left. And a tree as a test.
use Rattle.std.specs.Prelude.{◌≡◌, ℕ, zero, suc, ◌+◌, ◌-◌, max, Bool, true, false, ◌&&◌, List, Some, None, Option, ◌==◌, nat_le, nat_lt}
use Rattle.std.specs.List.{slice_get}
use Rattle.tokens.specs.Limits.{top_reach}
use Rattle.sparse.specs.Trees.{width}
use Rattle.sparse.specs.declared.node.Tip.{Tip}

-- the most nodes that a store uses
abbrev pub top_nodes : ℕ
top_nodes = 65535

-- there is a free node of the rank s, and the next one is as f says
abbrev pub Linked : {V : Type 0} → Option (Tip V) → ℕ → (ℕ → Type 0) → Type 0
Linked None s f = ⊥
Linked (Some t) s f = (t.node.place ≡ top_reach + s) × f t.left

-- the index k heads a chain of s free nodes
abbrev pub Chain : {V : Type 0} → ℕ → List (Tip V) → ℕ → Type 0
Chain zero ts k = Unit {0}
Chain (suc s) ts k = Linked (slice_get ts k) s (Chain s ts)

-- the same as tests
abbrev pub linked : {V : Type 0} → Option (Tip V) → ℕ → (ℕ → Bool) → Bool
linked None s f = false
linked (Some t) s f = t.node.place == top_reach + s && f t.left

-- whether the index k heads a chain of s free nodes
unfoldable pub chained : {V : Type 0} → ℕ → List (Tip V) → ℕ → Bool
chained zero ts k = true
chained (suc s) ts k = linked (slice_get ts k) s (chained s ts)

-- whether there is no node
abbrev pub no_tip : {V : Type 0} → Option (Tip V) → Bool
no_tip None = true
no_tip (Some t) = false

-- whether a node holds the least place of its tree
abbrev pub rootedb : {V : Type 0} → Option (Tip V) → ℕ → ℕ → ℕ → (ℕ → ℕ → ℕ → Bool) → Bool
rootedb None w a b f = true
rootedb (Some t) w a b f = nat_le a t.node.place && (nat_lt t.node.place b && (f (t.node.place + 1) (b - w) t.left && f (max (t.node.place + 1) (b - w)) b t.right))

-- whether the index i heads a tree of the places in [a, b)
unfoldable pub treed : {V : Type 0} → ℕ → List (Tip V) → ℕ → ℕ → ℕ → Bool
treed zero ts a b i = no_tip (slice_get ts i)
treed (suc n) ts a b i = rootedb (slice_get ts i) (width n) a b (treed n ts)
