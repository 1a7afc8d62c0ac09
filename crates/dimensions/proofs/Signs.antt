-- A dimension is its sign and its size.
use Rattle.std.proofs.Common.{◌≡◌, ℕ, suc, ◌+◌, ◌*◌, ◌/◌, ◌%◌, ◌<◌, Bool, true, false, T, List, ◌++◌, length, ℤ, pos, negsuc, neg_ℤ, nat_abs, ◌≤ℤ◌, ◌<ℤ◌, codes, decimal, sym, refl, ap, ◌∙◌, subst, mod-lt, div-add-mod', arith, lit<, length-append}
use Rattle.output.specs.Text.{Out, Added}
use Rattle.output.specs.Writers.{out_of}
use Rattle.output.specs.declared.writer.Writer.{Writer}
use Rattle.std.proofs.lemmas.Fmt.{decimal_is_IsNumeral}
use Rattle.std.proofs.lemmas.Int.{ints}
use Rattle.dimensions.specs.DigitLoops.{fraction}
use Rattle.dimensions.specs.Fractions.{nearest}
use Rattle.dimensions.specs.Dimensions.{shown, points, dimension}
use Rattle.dimensions.specs.Promises.{DimensionReadsBack}
use Rattle.dimensions.proofs.Remainders.{reads_back}

-- a negative dimension is `-` and its size
pub dimension_below : (z : ℤ) (n : ℕ) → z <ℤ pos 0 → n ≡ nat_abs z → codes "-" ++ points n ≡ dimension z
dimension_below (pos k) n h e = absurd (omega (arith, ints))
dimension_below (negsuc k) n h e = ap (λ (m : ℕ). codes "-" ++ points m) e

-- any other is its size
pub dimension_above : (z : ℤ) (n : ℕ) → pos 0 ≤ℤ z → n ≡ nat_abs z → points n ≡ dimension z
dimension_above (pos k) n h e = ap points e
dimension_above (negsuc k) n h e = absurd (omega (arith, ints))

-- it is never without text
pub points_some : (n : ℕ) → 0 < length (points n)
points_some n = omega (arith, length-append (decimal (n / 65536) ++ codes "." ++ shown (fraction (n % 65536))) (codes "pt"))

-- the writer and the output under other names
pub handed : {t bs bs' : List ℕ} {w w' : Writer} {s : Out} {r : Bool} → w ≡ w' → bs ≡ bs' → Added t (out_of w bs) s r → Added t (out_of w' bs') s r
handed {t = t} {s = s} {r = r} e f p = subst (λ (z : Out). Added t z s r) (cc) p

-- whole points and the fraction that reads back make the size
size_back : (n : ℕ) → n / 65536 * 65536 + nearest (fraction (n % 65536)) ≡ n
size_back n = ap (λ (f : ℕ). n / 65536 * 65536 + f) (reads_back (n % 65536) (mod-lt n (lit< tt))).same ∙ div-add-mod' n 65536

pub dimension_reads_back : DimensionReadsBack
dimension_reads_back (pos n) h =
    let b = reads_back (n % 65536) (mod-lt n (lit< tt)) in
    record {
      negative = false;
      whole = n / 65536;
      digits = fraction (n % 65536);
      prints = refl;
      numeral = decimal_is_IsNumeral (n / 65536) (omega arith);
      under = b.digits;
      some = b.some;
      few = b.few;
      size = size_back n;
      same = ap pos (size_back n);
      minus = λ e. absurd (subst T (sym e) tt);
    }
dimension_reads_back (negsuc m) h =
    let n = suc m in
    let b = reads_back (n % 65536) (mod-lt n (lit< tt)) in
    record {
      negative = true;
      whole = n / 65536;
      digits = fraction (n % 65536);
      prints = refl;
      numeral = decimal_is_IsNumeral (n / 65536) (omega arith);
      under = b.digits;
      some = b.some;
      few = b.few;
      size = size_back n;
      same = ap (λ (k : ℕ). neg_ℤ (pos k)) (size_back n);
      minus = λ e. omega arith;
    }
