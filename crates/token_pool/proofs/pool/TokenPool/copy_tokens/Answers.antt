use Rattle.std.proofs.Common.{◌≤◌, leb, length, drop, ◌++◌, sym, ◌∙◌, arith}
use Rattle.std.proofs.lemmas.Bool.{le-leb, cond-true}
use Rattle.std.proofs.lemmas.Iterator.Consumers.{YieldsList-at, YieldsList-from_first, YieldsList-from_enumerate, YieldsList-turn, YieldsList-end}
use Rattle.std.proofs.lemmas.List.{length_push, take_all}
use Rattle.std.proofs.lemmas.List.FromFn.{length-enumerate_from}
use Rattle.token_pool.specs.Meanings.{pool_of}
use Rattle.token_pool.proofs.Reading.{turn_at, copy_turn}
use Rattle.token_pool.proofs.pool.TokenPool.copy_tokens.Goals as goal

pub loop-i-preserved : goal.loop-i-preserved
loop-i-preserved c =
    let ts = (pool_of c.args.self.now).list c.args.list in
    let k = length c.loop-i.yielded in
    let all = YieldsList-at c.into_iter-i-iterator.ensures.into_iter_gives (YieldsList-from_enumerate (YieldsList-at c.enumerate-i-items.ensures.source (YieldsList-from_first (λ x. x) (λ rest. rest) ts c.tokens.ensures)) (cc)) in
    let t = turn_at ts k (c.in-Some.i, c.in-Some.token) (YieldsList-turn all c.loop-i.yielded _ c.loop-i.yielded_by _ _ (c.in-Some.i, c.in-Some.token) c.in-Some.is c.next.ensures.steps) in
    let l : length ts ≤ length c.args.words.now = omega arith in
    rw (length_push c.loop-i.yielded (c.in-Some.i, c.in-Some.token), t.1) (copy_turn ts c.args.words.now c.loop-i.words k c.in-Some.token l t.0 t.2 c.loop-i.invariant)

pub returns : goal.returns
returns c =
    let ts = (pool_of c.args.self.now).list c.args.list in
    let ws = c.args.words.now in
    let all = YieldsList-at c.into_iter-i-iterator.ensures.into_iter_gives (YieldsList-from_enumerate (YieldsList-at c.enumerate-i-items.ensures.source (YieldsList-from_first (λ x. x) (λ rest. rest) ts c.tokens.ensures)) (cc)) in
    let e = (YieldsList-end all c.loop-i.yielded _ c.loop-i.yielded_by _ _ c.in-None.is c.next.ensures.steps).1 ∙ length-enumerate_from 0 ts in
    let l : length ts ≤ length ws = omega arith in
    let b = le-leb (length ts) (length ws) l in
    record {
      result = sym b;
      after = c.loop-i.invariant ∙ rw (e, take_all (length ts) ts (omega arith)) (sym (cond-true (leb (length ts) (length ws)) (ts ++ drop (length ts) ws) ws b));
    }
