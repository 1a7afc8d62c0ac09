use Rattle.std.proofs.Common.{◌≡◌, ◌+◌, ◌*◌, ◌/◌, ◌%◌, ◌^◌, [], ◌∷◌, ◌++◌, refl, arith, lit<}
use Rattle.output.specs.Writers.{out_of}
use Rattle.output.proofs.Pieces.{nothing, begun, reads, on, ends}
use Rattle.dimensions.specs.DigitLoops.{fraction}
use Rattle.dimensions.specs.Dimensions.{shown}
use Rattle.dimensions.proofs.DigitSteps.{last, turn, next_power, before_six}
use Rattle.dimensions.proofs.printing.write_fraction.Goals as goal

pub loop-left-init : goal.loop-left-init
unfolding fraction
loop-left-init c = record {
  left_fits = omega arith;
  precision_starts = omega arith;
  precision_fits = omega arith;
  half = record {
    turns = 0;
    done = [];
    few = lit< tt;
    power = refl;
    written = begun (nothing (out_of c.args.writer.now c.args.out.now));
    together = refl;
  };
}

pub loop-left-preserved : goal.loop-left-preserved
loop-left-preserved c =
    let v = c.loop-left in
    let h = v.invariant.half in
    let t = c.ease-rounded.result in
    let p : v.precision * 10 ≡ 10 ^ (h.turns + 1 + 1) = next_power v.precision h.turns h.power in
    record {
      left_fits = omega arith;
      precision_starts = omega arith;
      precision_fits = omega arith;
      half = record {
        turns = h.turns + 1;
        done = h.done ++ ((48 + t / 65536) ∷ []);
        few = before_six (v.precision * 10) (10 * (t % 65536)) (h.turns + 1) p c.if-left-precision.false (omega arith);
        power = p;
        written = on h.written c.text-whole.ensures;
        together = turn h.turns v.left v.precision t h.done (shown (fraction (c.args.size % 65536))) h.few c.ease-rounded.ensures c.if-left-precision.false h.together;
      };
    }

pub returns-then-left-precision : goal.returns-then-left-precision
returns-then-left-precision c =
    let v = c.loop-left in
    let h = v.invariant.half in
    let t = c.ease-rounded.result in
    reads (last h.turns v.left v.precision t h.done (shown (fraction (c.args.size % 65536))) h.few c.ease-rounded.ensures c.if-left-precision.true h.together)
    (ends (lit< tt) h.written c.text-whole.ensures)
