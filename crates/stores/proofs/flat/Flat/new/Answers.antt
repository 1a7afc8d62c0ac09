use Rattle.std.proofs.Common.{rules}
use Rattle.stores.specs.Cells.{cell}
use Rattle.stores.proofs.Rows.{same_calls, row_blank}
use Rattle.stores.proofs.flat.Flat.new.Goals as goal

pub returns : goal.returns
returns g c =
    row_blank g.V.Value.ops _ c.fill_with.new.self g.met.V.Value.lawful.zero_is (search rules)
    (same_calls _ _ (cell g.V.Value.ops.zero 1) _ _ c.fill_with.ensures.ran.1 (λ x f h. (search rules, search rules)))
