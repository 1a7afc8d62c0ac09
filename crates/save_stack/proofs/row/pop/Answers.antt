use Rattle.save_stack.proofs.Fronts.{pop_some, pop_after}
use Rattle.save_stack.proofs.row.pop.Goals as goal

pub returns : goal.returns
returns g c =
    let xs = c.args.entries.now in
    let e = c.in_ok-newest.newest.now in
    let rest = c.in_ok-newest.rest.now in (
      pop_some xs c.args.top _ e rest c.min-used.ensures c.in_ok-newest.ensures.cases,
      pop_after xs c.args.top _ e rest c.min-used.ensures c.in_ok-newest.ensures.cases,
    )
