use Rattle.std.proofs.Common.{sym, ◌∙◌}
use Rattle.std.specs.Option.{unwrap_or}
use Rattle.stores.specs.Cells.{cell}
use Rattle.sparse.specs.Held.{held}
use Rattle.sparse.proofs.Looks.{look_found}
use Rattle.sparse.proofs.sparse.Sparse.read.Goals as goal

pub returns : goal.returns
returns g c =
    c.unwrap_or.ensures ∙ (λ i. unwrap_or (c.get.ensures i) (c.blank.ensures i)) ∙ sym (look_found (cell g.V.Value.ops.zero 1) c.args.place (held c.args.self.now.nodes))
