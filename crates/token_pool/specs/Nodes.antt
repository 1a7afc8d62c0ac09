-- What the nodes of a pool hold: chains of nodes, each node with its owner and how many come after it.
use Rattle.std.specs.Prelude.{◌≡◌, ℕ, zero, suc, ◌+◌, ◌<◌, ◌≤◌, Bool, cond, ◌&&◌, ◌⊎◌, List, [], ◌∷◌, length, ◌==◌, nat_lt, slice_index_or}
use Rattle.token_pool.specs.Pools.{PoolModel}
use Rattle.token_pool.specs.declared.node.Node.{Node}
use Rattle.token_pool.specs.declared.chain.FreeNodes.{FreeNodes}
use Rattle.token_pool.specs.declared.cursor.Cursor.{Cursor}

-- the most nodes that a pool uses; no index is that large, so it also stands for the owner of a free node
abbrev pub top_nodes : ℕ
top_nodes = 4294967295

-- what stands past the end: a node of no chain
abbrev pub none : ℕ → Node
none i = record { owner = suc i; left = 0; next = 0; token = 0; count = 0 }

-- the node at an index
abbrev pub at : List Node → ℕ → Node
at ns i = slice_index_or ns i (none i)

-- from i on there are k nodes, each of the owner o, and each knows how many come after it
abbrev pub Chain : List Node → ℕ → ℕ → ℕ → Type 0
Chain ns o i zero = Unit {0}
Chain ns o i (suc k) = (i < length ns) × ((at ns i).owner ≡ o) × ((at ns i).left ≡ k) × Chain ns o (at ns i).next k

-- the free nodes are a chain
abbrev pub Frees : List Node → FreeNodes → Type 0
Frees ns f = Chain ns top_nodes f.first f.count

-- the tokens of k nodes from i on
abbrev pub tokens_from : List Node → ℕ → ℕ → List ℕ
tokens_from ns i zero = []
tokens_from ns i (suc k) = (at ns i).token ∷ tokens_from ns (at ns i).next k

-- the tokens of the list b
abbrev pub list_at : List Node → ℕ → List ℕ
list_at ns b = cond ((at ns b).owner == b) (tokens_from ns (at ns b).next (at ns b).left) []

-- the reference count of the list b
abbrev pub count_at : List Node → ℕ → ℕ
count_at ns b = cond ((at ns b).owner == b) (at ns b).count 0

-- the pool that the nodes hold, of which so many are free
unfoldable pub nodes_pool : List Node → ℕ → PoolModel
nodes_pool ns f = record { list = list_at ns; count = count_at ns; free = f }

-- the nodes that the list b takes
abbrev pub size : List Node → ℕ → ℕ
size ns b = cond ((at ns b).owner == b) (suc (at ns b).left) 0

-- the nodes that all lists below n take
abbrev pub total : List Node → ℕ → ℕ
total ns zero = 0
total ns (suc n) = size ns n + total ns n

-- the list b has a token, and its nodes are a chain
abbrev pub Headed : List Node → ℕ → Type 0
Headed ns b = (0 < (at ns b).left) × Chain ns b b (suc (at ns b).left)

-- the free nodes are a chain, each list is a chain of its own, and together they are all nodes
pub record Sound (ns : List Node) (f : FreeNodes) : Type 0 where
  pub few : length ns ≤ top_nodes
  pub frees : Frees ns f
  pub heads : (b : ℕ) → (at ns b).owner ≡ b → Headed ns b
  pub all : f.count + total ns (length ns) ≡ length ns

-- each node is as it was, or went over from the owner o to the owner p
abbrev pub Moved : List Node → List Node → ℕ → ℕ → Type 0
Moved ns ms o p = (j : ℕ) → (at ms j ≡ at ns j) ⊎ (((at ns j).owner ≡ o) × ((at ms j).owner ≡ p))

-- a node put before the free ones
abbrev pub freed : FreeNodes → Node
freed f = record { owner = top_nodes; left = f.count; next = f.first; token = 0; count = 0 }

-- a node with another reference count
abbrev pub recounted : Node → ℕ → Node
recounted n u = record n { count = u }

-- the node at i is of the owner o, and k come after it
abbrev pub belongs : List Node → ℕ → ℕ → ℕ → Bool
belongs ns o i k = nat_lt i (length ns) && ((at ns i).owner == o && (at ns i).left == k)

-- the tokens of k nodes of the owner o from i on, as far as there are such nodes
abbrev pub rest_from : List Node → ℕ → ℕ → ℕ → List ℕ
rest_from ns o i zero = []
rest_from ns o i (suc k) = cond (belongs ns o i k) ((at ns i).token ∷ rest_from ns o (at ns i).next k) []

-- the tokens that are still to be read at a cursor
abbrev pub rest_at : List Node → Cursor → List ℕ
rest_at ns c = rest_from ns c.list c.node c.left
