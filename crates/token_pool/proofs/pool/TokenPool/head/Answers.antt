use Rattle.std.proofs.Common.{◌≡◌, ◌≢◌, MatchOption, rules}
use Rattle.token_pool.specs.Nodes.{at}
use Rattle.token_pool.specs.Meanings.{pool_of}
use Rattle.token_pool.proofs.Models.{head_reads}
use Rattle.token_pool.proofs.pool.TokenPool.head.Goals as goal

pub returns : goal.returns
unfolding pool_of
returns c =
    let p = c.args.self.now in
    let ns = p.nodes.items in
    let b = c.args.list in
    let f : MatchOption c.filter.result ((at ns b).owner ≢ b) (λ n. (at ns b ≡ n) × (n.owner ≡ b)) = search rules in
    let h = head_reads ns p.free b c.filter.result p.whole f in
    record { there = h.there; count = h.count; tokens = h.tokens; length = h.length; chain = h.chain }
