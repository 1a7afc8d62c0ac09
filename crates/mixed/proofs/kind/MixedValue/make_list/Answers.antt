use Rattle.std.proofs.Common.{◌≡◌, ℕ, false, List, [], ◌∷◌, length, vec_items, refl, arith, rules}
use Rattle.std.proofs.lemmas.Bool.{le-ltb}
use Rattle.token_pool.specs.Pools.{PoolModel, there}
use Rattle.token_pool.specs.Meanings.{pool_of}
use Rattle.token_pool.proofs.Models.{there_past}
use Rattle.values.specs.Ops.{MadeOf}
use Rattle.values.specs.Readings.{tokens}
use Rattle.mixed.specs.Mixeds.{mixed_ops}
use Rattle.mixed.specs.declared.mixed.Mixed.TheVariants.{Zero}
use Rattle.mixed.proofs.kind.MixedValue.make_list.Goals as goal

-- an empty list is zero, and makes nothing
empty : (ts : List ℕ) (m : PoolModel) (b : ℕ) → length ts ≡ 0 → there m b ≡ false → MadeOf mixed_ops (tokens ts) m m Zero
empty [] m b e h = record { at = b; absent = h; value = refl; pool = refl; enough = le-ltb m.free 0 (omega arith) }
empty (t ∷ ts) m b e h = absurd (omega arith)

-- there is always a number that is no list's: that of the nodes
pub returns-then-is_empty : goal.returns-then-is_empty
unfolding pool_of
returns-then-is_empty c =
    let p = c.args.pool.now in
    let nodes = vec_items p.nodes in
    empty c.args.list.now (pool_of p) (length nodes) (search rules) (there_past nodes p.free.count (length nodes) (omega arith))
