use Rattle.std.proofs.Common.{◌++◌, drop, refl, ap, ◌∙◌}
use Rattle.output.proofs.Rooms.{copied}
use Rattle.output.proofs.room.put_text.Goals as goal

pub returns : goal.returns
returns c =
    let n = c.min-size.result in
    record {
      length_is = c.min-size.ensures;
      whole_is = refl;
      laid_is = ap (λ z. z ++ drop n c.args.to.now) c.copy_from_slice.ensures.after ∙ copied n c.args.text.now c.args.to.now c.min-size.ensures;
    }
