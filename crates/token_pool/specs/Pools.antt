-- What a pool of shared token lists means: the tokens and the reference count of each list, and how many nodes are free.
use Rattle.std.specs.Prelude.{ℕ, zero, suc, ◌+◌, ◌-◌, Bool, cond, ◌&&◌, List, [], length, ◌==◌, nat_le, nat_lt}
use Rattle.tokens.specs.Limits.{top_uses}

-- the meaning of a pool: the tokens of each list, [] if it is not there, its reference count, 0 if it is not there, and the free nodes
pub record PoolModel : Type 0 where
  pub list : ℕ → List ℕ
  pub count : ℕ → ℕ
  pub free : ℕ

-- whether a list is there: a list has a token at least
abbrev pub there : PoolModel → ℕ → Bool
there m b = nat_lt 0 (length (m.list b))

-- a function with one of its values changed
abbrev pub put : {C : Type 0} → (ℕ → C) → ℕ → C → ℕ → C
put f p c q = cond (p == q) c (f q)

-- a pool of n nodes with no list
abbrev pub empty_pool : ℕ → PoolModel
empty_pool n = record { list = λ b. []; count = λ b. 0; free = n }

-- the pool with the list b of the tokens ts, which nothing refers to yet
abbrev pub made : PoolModel → ℕ → List ℕ → PoolModel
made m b ts = record { list = put m.list b ts; count = put m.count b 0; free = m.free - (length ts + 1) }

-- the pool with the reference count of the list b changed to n
abbrev pub recount : PoolModel → ℕ → ℕ → PoolModel
recount m b n = record { list = m.list; count = put m.count b n; free = m.free }

-- the pool without the list b
abbrev pub removed : PoolModel → ℕ → PoolModel
removed m b = record { list = put m.list b []; count = put m.count b 0; free = m.free + (length (m.list b) + 1) }

-- whether one reference more can be counted
abbrev pub takes : PoolModel → ℕ → Bool
takes m b = there m b && nat_lt (m.count b) top_uses

-- the pool with one reference to the list b more, if it can be counted
abbrev pub taken : PoolModel → ℕ → PoolModel
taken m b = cond (takes m b) (recount m b (m.count b + 1)) m

-- the pool with one reference to the list b less, and without the list if that was the last
abbrev pub dropped : PoolModel → ℕ → PoolModel
dropped m b = cond (there m b) (cond (nat_le (m.count b) 1) (removed m b) (recount m b (m.count b - 1))) m

-- the nodes that the list b takes: one for each token and one more
abbrev pub list_nodes : PoolModel → ℕ → ℕ
list_nodes m b = cond (there m b) (length (m.list b) + 1) 0

-- the nodes that all lists below n take
abbrev pub nodes_taken : PoolModel → ℕ → ℕ
nodes_taken m zero = 0
nodes_taken m (suc n) = list_nodes m n + nodes_taken m n
