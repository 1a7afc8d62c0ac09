use Rattle.std.proofs.Common.{ap, lit<, rules}
use Rattle.output.proofs.Pieces.{reads, begun, on, ends}
use Rattle.trace.specs.Lines.{placed, group_line}
use Rattle.trace.proofs.LineEnds.{line, stood, skipped, unstood}
use Rattle.trace.proofs.Events.{of_group}
use Rattle.trace.proofs.groups.group_line.Goals as goal

pub returns-then-entry-gt0 : goal.returns-then-entry-gt0
returns-then-entry-gt0 c =
    let b = c.begin-entry.ensures in
    let h = c.if-entry-gt0.true in
    let lost = skipped {bs = c.args.out.now} (group_line c.args.event c.args.group c.args.level) b.writer b.start b.done c.drop-entry.ensures h in
    record { result = unstood _ _ b.writer h; wrote = search (rules, lost) }

pub returns : goal.returns
returns c =
    let b = c.begin-entry.ensures in
    let h = c.if-entry-gt0.false in
    let begins = begun (reads c.verb.ensures c.text.ensures) in
    let named = on begins (reads c.name.ensures c.text-2.ensures) in
    let place = reads (ap (λ z. placed z c.args.group.line) c.place_words.ensures) c.write_place.ensures in
    let p = reads (of_group c.args.event c.args.group c.args.level) (ends (lit< tt) (on (on named c.write_level.ensures) place) c.text-whole.ensures) in
    let added = line b.writer b.start c.drop-entry-2.ensures h p in
    record { result = stood b.writer h p; wrote = search (rules, added) }
