use Rattle.std.proofs.Common.{◌≡◌, ◌+◌, length, sym, ap, arith, length-set}
use Rattle.token_pool.specs.declared.chain.FreeNodes.{FreeNodes}
use Rattle.token_pool.specs.Nodes.{top_nodes}
use Rattle.token_pool.proofs.Chains.{pop_chain}
use Rattle.token_pool.proofs.Lists.{build_all}
use Rattle.token_pool.proofs.Models.{model_made, there_absent}
use Rattle.token_pool.proofs.chain.FreeNodes.build.Goals as goal

pub fill-first-requires-clause-frees : goal.fill-first-requires-clause-frees
fill-first-requires-clause-frees c =
    rw (c.pop-list.ensures.first, c.pop-list.ensures.after) (pop_chain c.args.nodes.now top_nodes c.args.self.now.first c.args.self.now.count _ (omega (arith, c.requires.room)) c.requires.sound.frees)

pub returns : goal.returns
returns c =
    let ns = c.args.nodes.now in
    let ts = c.args.tokens.now in
    let free = c.args.self.now in
    let b = c.pop-list.result in
    let f = c.fill-first in
    let l : f.new.self.count + (length ts + 1) ≡ free.count = omega (arith, f.ensures.left, ap (λ (x : FreeNodes). x.count) c.pop-list.ensures.after, c.requires.room) in
    let q = build_all ns f.new.nodes ts b f.result free f.new.self c.requires.sound (sym c.pop-list.ensures.first) c.requires.some l
    (omega (arith, length-set ns b (record { owner = b; left = length ts; next = 0; token = 0; count = 0 })))
    f.ensures.moved f.ensures.frees f.ensures.chain f.ensures.holds in
    record { first = c.pop-list.ensures.first; sound = q.0; absent = there_absent ns free.count b q.2; after = model_made ns _ b free.count f.new.self.count ts (omega arith) q.1 }
