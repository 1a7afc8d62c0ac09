use Rattle.std.proofs.Common.{List, subst}
use Rattle.token_pool.specs.declared.node.Node.{Node}
use Rattle.token_pool.specs.Readings.{Reads}
use Rattle.token_pool.specs.Nodes.{rest_at}
use Rattle.token_pool.specs.Meanings.{rest_of}
use Rattle.token_pool.proofs.pool.TokenPool.token.Goals as goal

pub returns : goal.returns
unfolding rest_of
returns c = subst (λ (xs : List Node). Reads (rest_at xs) c.args.cursor c.read.result) c.deref.ensures.value c.read.ensures
