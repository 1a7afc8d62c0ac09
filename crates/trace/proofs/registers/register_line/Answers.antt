use Rattle.std.proofs.Common.{rules}
use Rattle.output.proofs.Pieces.{reads, begun, on, ends}
use Rattle.trace.specs.Lines.{register_line}
use Rattle.trace.proofs.LineEnds.{line, stood, skipped, unstood}
use Rattle.trace.proofs.Events.{of_register, end_some}
use Rattle.trace.proofs.registers.register_line.Goals as goal

pub returns-then-entry-gt0 : goal.returns-then-entry-gt0
returns-then-entry-gt0 g c =
    let b = c.begin-entry.ensures in
    let h = c.if-entry-gt0.true in
    let shown = g.V.Value.ops.shown c.args.value.now (g.V.Value.meaning c.args.pool.now) c.args.place in
    let lost = skipped {bs = c.args.out.now} (register_line c.args.event shown) b.writer b.start b.done c.drop-entry.ensures h in
    record { result = unstood _ _ b.writer h; wrote = search (rules, lost) }

pub returns : goal.returns
returns g c =
    let b = c.begin-entry.ensures in
    let h = c.if-entry-gt0.false in
    let shown = on (begun (reads c.verb.ensures c.text.ensures)) c.write_register.ensures in
    let p = reads (of_register c.args.event _) (ends (end_some c.args.event) shown (reads c.end.ensures c.text-whole.ensures)) in
    let added = line b.writer b.start c.drop-entry-2.ensures h p in
    record { result = stood b.writer h p; wrote = search (rules, added) }
