use Rattle.std.proofs.Common.{◌/◌, ap}
use Rattle.tokens.specs.declared.class.Class.{Class}
use Rattle.output.proofs.Pieces.{reads, next, more}
use Rattle.values.specs.Names.{name_text}
use Rattle.mixed.proofs.kind.write_register.Goals as goal

pub returns-then-write_name : goal.returns-then-write_name
returns-then-write_name c = next (reads (ap (λ (k : Class). name_text k (c.args.place / 4)) c.shown_class.ensures) c.if-write_name.ensures) c.write_reading.ensures

pub returns-else-write_name : goal.returns-else-write_name
returns-else-write_name c = rw c.if-write_name.false (more _ (reads (ap (λ (k : Class). name_text k (c.args.place / 4)) c.shown_class.ensures) c.if-write_name.ensures))
