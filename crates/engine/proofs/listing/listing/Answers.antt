use Rattle.std.proofs.Common.{◌≡◌, ◌+◌, ◌-◌, true, false, sym, ap, ◌∙◌, arith}
use Rattle.output.specs.Text.{Out, stands, wrote}
use Rattle.output.specs.Writers.{out_of}
use Rattle.trace.specs.Lines.{listed}
use Rattle.engine.specs.Listings.{line_at, lines_from, listed_to, all_stand, listing_answer}
use Rattle.engine.proofs.Listed.{told_cell, told_none, found, rest, absent, to_stands, all_stands, to_lost, all_lost}
use Rattle.engine.proofs.listing.listing.Goals as goal

pub returns-in_default-cell : goal.returns-in_default-cell
returns-in_default-cell g c =
    let s = g.S.Store.model c.args.store.now in
    let p = c.loop-place.from in
    let f = found g.V.Value.ops s (g.V.Value.meaning c.args.pool.now) (s.reach - p) p c.in-Some.place c.in-Some.ensures.value in
    let l = f.low in
    let h = f.high in
    absurd (told_none s c.in-Some.place c.in_default-cell.ensures (omega arith))

pub returns-then-not-register_line : goal.returns-then-not-register_line
returns-then-not-register_line g c =
    let k = g.V.Value.ops in
    let s = g.S.Store.model c.args.store.now in
    let m = g.V.Value.meaning c.args.pool.now in
    let p = c.loop-place.from in
    let q = c.in-Some.place in
    let o = out_of c.loop-place.writer c.loop-place.out in
    let f = found k s m (s.reach - p) p q c.in-Some.ensures.value in
    let l = f.low in
    let h = f.high in
    let e = ap (λ z. listed (k.shown z.value m q)) (told_cell s q c.in-Some-cell.ensures (omega arith)) in
    let w = c.if-not-register_line.ensures in
    let stop : stands o (line_at k s m q) ≡ false = ap (stands o) (sym e) ∙ sym w.result in
    let r = rest k s m p q f in
    record {
      answer = ap listing_answer (all_lost o (line_at k s m q) (lines_from k s m (q + 1) (s.reach - (q + 1))) (lines_from k s m p (s.reach - p)) r stop ∙ c.loop-place.invariant.2);
      written = w.wrote ∙ ap (wrote o) e ∙ to_lost o (line_at k s m q) (lines_from k s m (q + 1) (s.reach - (q + 1))) (lines_from k s m p (s.reach - p)) r stop ∙ c.loop-place.invariant.1;
    }

pub loop-place-smaller : goal.loop-place-smaller
loop-place-smaller g c =
    let s = g.S.Store.model c.args.store.now in
    let p = c.loop-place.from in
    let f = found g.V.Value.ops s (g.V.Value.meaning c.args.pool.now) (s.reach - p) p c.in-Some.place c.in-Some.ensures.value in
    let l = f.low in
    let n = c.in-Some.ensures.near in
    omega arith

pub loop-place-preserved : goal.loop-place-preserved
loop-place-preserved g c =
    let k = g.V.Value.ops in
    let s = g.S.Store.model c.args.store.now in
    let m = g.V.Value.meaning c.args.pool.now in
    let p = c.loop-place.from in
    let q = c.in-Some.place in
    let o = out_of c.loop-place.writer c.loop-place.out in
    let f = found k s m (s.reach - p) p q c.in-Some.ensures.value in
    let l = f.low in
    let h = f.high in
    let n = c.in-Some.ensures.near in
    let e = ap (λ z. listed (k.shown z.value m q)) (told_cell s q c.in-Some-cell.ensures (omega arith)) in
    let w = c.if-not-register_line.ensures in
    let go : stands o (line_at k s m q) ≡ true = ap (stands o) (sym e) ∙ sym w.result in
    let r = rest k s m p q f in
    let ls = lines_from k s m (q + 1) (s.reach - (q + 1)) in
    let v : out_of c.register_line.new.writer c.register_line.new.out ≡ wrote o (line_at k s m q) = w.wrote ∙ ap (wrote o) e in (
      omega arith,
      ap (λ (z : Out). listed_to z ls) v ∙ to_stands o (line_at k s m q) ls (lines_from k s m p (s.reach - p)) r go ∙ c.loop-place.invariant.1,
      ap (λ (z : Out). all_stand z ls) v ∙ all_stands o (line_at k s m q) ls (lines_from k s m p (s.reach - p)) r go ∙ c.loop-place.invariant.2,
    )

pub returns : goal.returns
returns g c =
    let k = g.V.Value.ops in
    let s = g.S.Store.model c.args.store.now in
    let m = g.V.Value.meaning c.args.pool.now in
    let p = c.loop-place.from in
    let o = out_of c.loop-place.writer c.loop-place.out in
    let e = absent k s m (s.reach - p) p c.in_default.ensures.value in
    record {
      answer = ap listing_answer (sym (ap (all_stand o) e) ∙ c.loop-place.invariant.2);
      written = sym (ap (listed_to o) e) ∙ c.loop-place.invariant.1;
    }
