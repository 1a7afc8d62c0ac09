-- Unwinding, close by close.
use Rattle.std.proofs.Common.{◌≡◌, ℕ, suc, ◌-◌, ◌<◌, ◌≤◌, Bool, true, false, cond, not, ◌&&◌, ltb, List, [], ◌∷◌, ◌++◌, replicate, sym, refl, ap, ◌∙◌, arith}
use Rattle.std.proofs.lemmas.Bool.{lt-ltb}
use Rattle.output.specs.Text.{Out, wrote, told}
use Rattle.tokens.specs.declared.refusal.Refusal.TheVariants.{OtherGroup}
use Rattle.values.specs.Ops.{Ops}
use Rattle.save_stack.specs.declared.entry.Entry.{Entry}
use Rattle.save_stack.specs.declared.entry.Entry.TheVariants.{Saved, Held, Boundary}
use Rattle.engine.specs.declared.fault.Cause.TheVariants.{Call}
use Rattle.engine.specs.Acts.{drops, pops, staying, unsaved, unheld, passes, tried, after, unwound_to}
use Rattle.engine.specs.Faults.{first_of, is_none}
use Rattle.engine.specs.Tables.{Table}
use Rattle.engine.specs.Traces.{pop_lines, lines_of, all_lines}

-- lines told in two parts
pub told_more : (o : Out) (xs ys : List (List ℕ)) → told o (xs ++ ys) ≡ told (told o xs) ys
told_more o [] ys = refl
told_more o (x ∷ xs) ys = told_more (wrote o x) xs ys

module _ {V M : Type 0} (k : Ops V M) where
  -- a close takes one off the level
  pub pops_level : (keep : Bool) (es : List (Entry V)) (t : Table V M) → (pops k keep es t).level ≡ t.level - 1
  pops_level keep [] t = refl
  pops_level keep (Saved p c ∷ es) t = pops_level keep es (unsaved k (ltb p t.store.reach) (staying k t p) t p c es)
  pops_level keep (Held c ∷ es) t = pops_level keep es (unheld k keep t c es)
  pops_level keep (Boundary g ∷ es) t = refl

  -- inside a group a dropping close is carried out
  drops_pass : (t : Table V M) → 1 < t.level → passes k drops t ≡ true
  drops_pass t h = ap (λ (b : Bool). is_none (first_of ((not b, Call OtherGroup) ∷ [])) && true) (lt-ltb 1 t.level h)

  -- one turn of unwinding
  module _ (t u : Table V M) (l : ℕ) (inside : 1 < t.level) (above : l ≤ t.level) (is : u ≡ pops k false t.saves.held t) where
    pub level_is : u.level ≡ t.level - 1
    level_is = ap (λ (x : Table V M). x.level) is ∙ pops_level false t.saves.held t

    pub count_turn : unwound_to l t.level ≡ suc (unwound_to l u.level)
    count_turn = let e = level_is in omega arith

    pub level_falls : u.level < t.level
    level_falls = let e = level_is in omega arith

    tried_is : tried k drops t ≡ u
    tried_is = ap (λ (b : Bool). cond b (pops k false t.saves.held t) t) (drops_pass t inside) ∙ sym is

    pub table_turn : after k (replicate (unwound_to l u.level) drops) u ≡ after k (replicate (unwound_to l t.level) drops) t
    table_turn =
        ap (after k (replicate (unwound_to l u.level) drops)) (sym tried_is)
        ∙ sym (ap (λ (i : ℕ). after k (replicate i drops) t) count_turn)

    lines_is : lines_of k drops t ≡ pop_lines k false t.saves.held t
    lines_is = ap (λ (b : Bool). cond b (pop_lines k false t.saves.held t) []) (drops_pass t inside)

    pub lines_turn : (o : Out) → told (told o (pop_lines k false t.saves.held t)) (all_lines k (replicate (unwound_to l u.level) drops) u)
        ≡ told o (all_lines k (replicate (unwound_to l t.level) drops) t)
    lines_turn o =
        ap (λ (z : List (List ℕ)). told (told o z) (all_lines k (replicate (unwound_to l u.level) drops) u)) (sym lines_is)
        ∙ ap (λ (z : Table V M). told (told o (lines_of k drops t)) (all_lines k (replicate (unwound_to l u.level) drops) z)) (sym tried_is)
        ∙ sym (told_more o (lines_of k drops t) (all_lines k (replicate (unwound_to l u.level) drops) (tried k drops t)))
        ∙ sym (ap (λ (i : ℕ). told o (all_lines k (replicate i drops) t)) count_turn)

  -- the end of unwinding
  pub table_end : (t : Table V M) (n : ℕ) → n ≡ 0 → after k (replicate n drops) t ≡ t
  table_end t n e = ap (λ (i : ℕ). after k (replicate i drops) t) e

  pub lines_end : (t : Table V M) (n : ℕ) (o : Out) → n ≡ 0 → told o (all_lines k (replicate n drops) t) ≡ o
  lines_end t n o e = ap (λ (i : ℕ). told o (all_lines k (replicate i drops) t)) e
