use Rattle.std.proofs.Common.{◌≡◌, ◌∷◌, length, reverse, take, rules, ap, ◌∙◌, arith}
use Rattle.std.proofs.lemmas.List.{take_min, length-take-le, nil_from_length}
use Rattle.save_stack.specs.Entries.{held_in}
use Rattle.save_stack.proofs.HeldBack.{held_push, long_push}
use Rattle.save_stack.proofs.held.count.Goals as goal

pub loop-entry-init : goal.loop-entry-init
loop-entry-init g c =
    let xs = c.args.entries.now in
    let u = c.min-used.result in
    let rest : c.into_iter-entry-iterator.result.iter.rest.now ≡ take u xs = search rules in
    let used : take u xs ≡ take c.args.top xs = ap (λ k. take k xs) c.min-used.ensures ∙ take_min c.args.top xs in
    let all = ap (λ ys. held_in (reverse ys)) (rest ∙ used) in
    let long = ap length rest ∙ length-take-le u xs (omega arith) in
    (omega arith, omega (arith, all))

pub returns-in-Boundary : goal.returns-in-Boundary
returns-in-Boundary g c =
    let v = c.loop-entry in
    let turn = held_push v.entry-iterator.iter.rest.now _ _ c.in-Some.ensures.steps in
    let here = ap (λ e. held_in (e ∷ reverse c.next.new.self.iter.rest.now)) c.in-Boundary.is in
    omega (arith, v.invariant.1, turn, here)

pub overflow_add-held : goal.overflow_add-held
overflow_add-held g c =
    let v = c.loop-entry in
    let more = long_push v.entry-iterator.iter.rest.now _ _ c.in-Some.ensures.steps in
    omega (arith, v.invariant.0, more)

pub loop-entry-preserved-in-Held : goal.loop-entry-preserved-in-Held
loop-entry-preserved-in-Held g c =
    let v = c.loop-entry in
    let more = long_push v.entry-iterator.iter.rest.now _ _ c.in-Some.ensures.steps in
    let turn = held_push v.entry-iterator.iter.rest.now _ _ c.in-Some.ensures.steps in
    let here = ap (λ e. held_in (e ∷ reverse c.next.new.self.iter.rest.now)) c.in-Held.is in
    (omega (arith, v.invariant.0, more), omega (arith, v.invariant.1, turn, here))

pub loop-entry-preserved : goal.loop-entry-preserved
loop-entry-preserved g c =
    let v = c.loop-entry in
    let more = long_push v.entry-iterator.iter.rest.now _ _ c.in-Some.ensures.steps in
    let turn = held_push v.entry-iterator.iter.rest.now _ _ c.in-Some.ensures.steps in
    let here = ap (λ e. held_in (e ∷ reverse c.next.new.self.iter.rest.now)) c.in-Saved.is in
    (omega (arith, v.invariant.0, more), omega (arith, v.invariant.1, turn, here))

pub returns : goal.returns
returns g c =
    let v = c.loop-entry in
    let none = ap (λ ys. held_in (reverse ys)) (nil_from_length v.entry-iterator.iter.rest.now c.in-None.ensures.steps.0) in
    omega (arith, v.invariant.1, none)
