use Rattle.std.proofs.Common.{rules, ◌-◌, ◌≤◌, length, nat_lt, sym, ◌∙◌, inl, inr}
use Rattle.std.proofs.lemmas.Bool.{cases_Bool, cond-true, cond-false}
use Rattle.std.proofs.lemmas.List.{get_or_past}
use Rattle.tokens.specs.Words.{words}
use Rattle.tokens.proofs.word.word.Goals as goal

pub returns-in-None : goal.returns-in-None
returns-in-None c =
    let past : length words ≤ c.args.code - 256 = search (rules, c.in-None.ensures.lookup) in
    elim (cases_Bool (nat_lt c.args.code 256)) [
      | inl e ↦ sym (cond-true _ _ _ e)
      | inr e ↦ sym (cond-false _ _ _ e ∙ get_or_past words _ _ past)
    ]
