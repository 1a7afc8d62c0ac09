-- What a pool and a cursor in memory mean.
use Rattle.std.specs.Prelude.{ℕ, List, vec_items}
use Rattle.token_pool.specs.Pools.{PoolModel}
use Rattle.token_pool.specs.Nodes.{nodes_pool, rest_at}
use Rattle.token_pool.specs.declared.pool.TokenPool.{TokenPool}
use Rattle.token_pool.specs.declared.cursor.Cursor.{Cursor}

-- the pool that its nodes hold
unfoldable pub pool_of : TokenPool → PoolModel
pool_of p = nodes_pool (vec_items p.nodes) p.free.count

-- the tokens that are still to be read at a cursor
unfoldable pub rest_of : TokenPool → Cursor → List ℕ
rest_of p = rest_at (vec_items p.nodes)
