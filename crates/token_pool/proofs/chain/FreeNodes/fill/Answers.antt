use Rattle.std.proofs.Common.{◌≡◌, ℕ, ◌-◌, ◌<◌, List, length, reverse, get_or, ◌∙◌, arith}
use Rattle.std.proofs.lemmas.Iterator.Adapters.{YieldsList-from_rev_slice}
use Rattle.std.proofs.lemmas.Iterator.Consumers.{YieldsList-at, YieldsList-from_enumerate, YieldsList-turn}
use Rattle.std.proofs.lemmas.List.{get_or-reverse, length-reverse, length_push}
use Rattle.token_pool.proofs.Chains.{fill_step}
use Rattle.token_pool.proofs.Reading.{turn_at}
use Rattle.token_pool.proofs.chain.FreeNodes.fill.Goals as goal

-- the same, where the list is gone through from its end
turn_back : (ts : List ℕ) (k x : ℕ) → k < length (reverse ts) → x ≡ get_or (reverse ts) k x → (k < length ts) × (x ≡ get_or ts (length ts - 1 - k) x)
turn_back ts k x h e = let l : k < length ts = omega (arith, length-reverse ts) in (l, e ∙ get_or-reverse ts k x l)

pub loop-left-preserved : goal.loop-left-preserved
loop-left-preserved c =
    let ts = c.args.tokens.now in
    let i = c.loop-left.invariant in
    let yields = YieldsList-at c.into_iter-left-iterator.ensures.into_iter_gives (YieldsList-from_enumerate (YieldsList-at c.enumerate-left-items.ensures.source (YieldsList-from_rev_slice ts cc)) (cc)) in
    let t = turn_at (reverse ts) (length c.loop-left.yielded) (c.in-Some.left, c.in-Some.token.now)
    (YieldsList-turn yields c.loop-left.yielded _ c.loop-left.yielded_by _ _ (c.in-Some.left, c.in-Some.token) c.in-Some.is c.next.ensures.steps) in
    let u = turn_back ts (length c.loop-left.yielded) c.in-Some.token.now t.0 t.2 in
    let s = fill_step c.args.nodes.now c.loop-left.nodes ts c.args.owner c.loop-left.self.first c.loop-left.self.count c.loop-left.first (length c.loop-left.yielded) c.in-Some.token.now
    c.requires.owned (omega (arith, u.0, c.requires.enough, i.taken)) u.0 u.1 i.frees i.chain i.holds i.moved in
    rw (length_push c.loop-left.yielded (c.in-Some.left, c.in-Some.token), t.1, c.pop-i.ensures.first, c.pop-i.ensures.after)
    (record { frees = s.0; taken = omega (arith, u.0, c.requires.enough, i.taken); chain = s.1; holds = s.2; moved = s.3 })
