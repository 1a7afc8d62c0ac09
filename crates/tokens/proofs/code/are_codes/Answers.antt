use Rattle.std.proofs.Common.{rules}
use Rattle.std.proofs.lemmas.Iterator.{YieldsList-from_slice}
use Rattle.std.proofs.lemmas.Iterator.Search.{all_from_yields_List}
use borrow.Author.Tests.{tests}
use Rattle.tokens.specs.Codes.{is_code}
use Rattle.tokens.proofs.code.are_codes.Goals as goal

pub returns : goal.returns
-- the answer is found from what `all` gives, so that an edit of the body is judged by what it answers
returns c =
    let all = all_from_yields_List is_code _ _ _ c.all.ensures.ran (YieldsList-from_slice c.args.codes.now cc) (λ x b q k. search (rules, tests)) in
    search (rules, tests)
