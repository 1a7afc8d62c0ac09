use Rattle.std.proofs.Common.{◌≡◌, ◌++◌, length, take, drop}
use Rattle.token_pool.specs.Meanings.{pool_of}
use Rattle.token_pool.proofs.pool.TokenPool.copy_tokens.Given as goal

abbrev pub invariant-loop-i : goal.invariant-loop-i
invariant-loop-i l = l.words ≡ take (length l.yielded) ((pool_of l.self).list l.list) ++ drop (length l.yielded) l.initial.words
