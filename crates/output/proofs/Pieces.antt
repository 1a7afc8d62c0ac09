-- Parts of a line, one behind the other.
use Rattle.std.proofs.Common.{◌≡◌, ℕ, zero, suc, ◌+◌, ◌-◌, ◌<◌, ◌≤◌, min, Bool, true, false, leb, ◌⊎◌, List, [], ◌∷◌, ◌++◌, length, take, drop, sym, refl, ap, ◌∙◌, subst, inl, inr, arith, length-append, length-drop, take-append-drop, le-leb, leb-false, leb-true}
use borrow.Author.Tests.{lt-leb}
use Rattle.std.proofs.Math.Seq.{take-nil, drop-nil}
use Rattle.std.proofs.lemmas.Bool.Decides.{nat_tests}
use Rattle.output.specs.Text.{Out, Piece, Added, laid, fits, during}
use Rattle.output.specs.Writers.{out_of, fresh}
use Rattle.output.specs.declared.writer.Writer.{Writer}
use Rattle.output.proofs.Rooms.{laid_none, length_over, out_is}

-- two texts laid one behind the other are the joined text
laid_laid : (a b r : List ℕ) (k : ℕ) → k ≡ min (length a) (length r) → take k (laid a r) ++ laid b (drop k (laid a r)) ≡ laid (a ++ b) r
laid_laid [] b r zero e = refl
laid_laid [] b r (suc k) e = absurd (omega arith)
laid_laid (x ∷ a) b [] zero e = laid_none b
laid_laid (x ∷ a) b [] (suc k) e = absurd (omega arith)
laid_laid (x ∷ a) b (y ∷ r) zero e = absurd (omega arith)
laid_laid (x ∷ a) b (y ∷ r) (suc k) e = ap (λ (z : List ℕ). x ∷ z) (laid_laid a b r k (omega arith))

empty_room : (a b r : List ℕ) (k : ℕ) → r ≡ [] → take k (laid a r) ++ laid b (drop k (laid a r)) ≡ laid (a ++ b) r
empty_room a b r k e =
    ap (λ (z : List ℕ). take k (laid a z) ++ laid b (drop k (laid a z))) e
    ∙ ap (λ (z : List ℕ). take k z ++ laid b (drop k z)) (laid_none a)
    ∙ ap (λ (z : List ℕ). z ++ laid b (drop k [])) (take-nil k) ∙ ap (laid b) (drop-nil k) ∙ laid_none b
    ∙ sym (laid_none (a ++ b)) ∙ ap (laid (a ++ b)) (sym e)

over : (m : ℕ) (bs a b : List ℕ) (k : ℕ) → k ≡ m + min (length a) (length bs - m)
    → take k (take m bs ++ laid a (drop m bs)) ++ laid b (drop k (take m bs ++ laid a (drop m bs))) ≡ take m bs ++ laid (a ++ b) (drop m bs)
over zero bs a b k e = laid_laid a b bs k (omega arith)
over (suc m) [] a b k e = empty_room a b [] k refl
over (suc m) (x ∷ bs) a b zero e = absurd (omega arith)
over (suc m) (x ∷ bs) a b (suc k) e = ap (λ (z : List ℕ). x ∷ z) (over m bs a b k (omega arith))

laid_cut : (t u r : List ℕ) → length r ≤ length t → laid t r ≡ laid (t ++ u) r
laid_cut [] u [] h = sym (laid_none u)
laid_cut [] u (y ∷ r) h = absurd (omega arith)
laid_cut (x ∷ t) u [] h = refl
laid_cut (x ∷ t) u (y ∷ r) h = ap (λ (z : List ℕ). x ∷ z) (laid_cut t u r (omega arith))

over_cut : (m : ℕ) (bs t u : List ℕ) → length bs - m ≤ length t → take m bs ++ laid t (drop m bs) ≡ take m bs ++ laid (t ++ u) (drop m bs)
over_cut m bs t u h = ap (λ (z : List ℕ). take m bs ++ z) (laid_cut t u (drop m bs) (omega (arith, length-drop m bs)))

-- what stands after a text, whether or not all of it fitted
pub record Stands (a : List ℕ) (o s : Out) : Type 0 where
  pub is : s ≡ during o a

pub begun : {a : List ℕ} {o s : Out} {r : Bool} → Added a o s r → Stands a o s
begun p = record { is = p.wrote_is }

fits_false : {t : List ℕ} {o s : Out} → Added t o s false → length o.bytes - o.mark < length t
unfolding fits
fits_false p = leb-false _ _ (sym p.whole_is)

fits_true : {t : List ℕ} {o s : Out} → Added t o s true → length t ≤ length o.bytes - o.mark
unfolding fits
fits_true p = leb-true _ _ (sym p.whole_is)

-- the same text under another name
pub reads : {t u : List ℕ} {o s : Out} {r : Bool} → t ≡ u → Added t o s r → Added u o s r
reads {o = o} {s = s} {r = r} e p = subst (λ (z : List ℕ). Added z o s r) e p

-- no text
pub nothing : (o : Out) → Added [] o o true
unfolding fits during
nothing o = record { whole_is = sym (le-leb _ _ (omega arith)); wrote_is = out_is (sym (take-append-drop o.mark o.bytes)) (omega arith) refl }

-- a text, then a part
pub on : {a b : List ℕ} {o s s' : Out} {r : Bool} → Stands a o s → Added b s s' r → Stands (a ++ b) o s'
unfolding during
on {a = a} {b = b} {o = o} p q =
    record {
      is = q.wrote_is ∙ ap (λ (z : Out). during z b) p.is
          ∙ out_is (over o.mark o.bytes a b _ refl) (omega (arith, length-append a b, length_over o.mark o.bytes a)) refl;
    }

shift : (k x y : ℕ) → (0 < x) ⊎ (k ≤ y) → leb x (y - min k y) ≡ leb (k + x) y
shift k x y h = grind (arith, nat_tests)

chained : {a b : List ℕ} {o s s' : Out} {r : Bool} → (0 < length b) ⊎ (length a ≤ length o.bytes - o.mark) → Stands a o s → Added b s s' r → Added (a ++ b) o s' r
unfolding fits during
chained {a = a} {b = b} {o = o} k p q =
    let m = o.mark in
    let n = length o.bytes in
    let left : length (during o a).bytes - (during o a).mark ≡ (n - m) - min (length a) (n - m) = omega (arith, length_over m o.bytes a) in
    record {
      whole_is = q.whole_is ∙ ap (λ (z : Out). fits z b) p.is ∙ ap (λ (z : ℕ). leb (length b) z) left
          ∙ shift (length a) (length b) (n - m) k ∙ ap (λ (z : ℕ). leb z (n - m)) (sym (length-append a b));
      wrote_is = (on p q).is;
    }

-- a part that fits whole, then another
pub next : {a b : List ℕ} {o s s' : Out} {r : Bool} → Added a o s true → Added b s s' r → Added (a ++ b) o s' r
next p q = chained (inr (fits_true p)) (begun p) q

-- a text, then a last part that has some: whether all fitted is whether that one did
pub ends : {a b : List ℕ} {o s s' : Out} {r : Bool} → 0 < length b → Stands a o s → Added b s s' r → Added (a ++ b) o s' r
ends h p q = chained (inl h) p q

-- a text of which a part does not fit
pub more : {a : List ℕ} {o s : Out} (b : List ℕ) → Added a o s false → Added (a ++ b) o s false
unfolding fits during
more {a = a} {o = o} b p =
    let f = fits_false p in
    let l = length-append a b in
    record {
      whole_is = sym (lt-leb _ _ (omega arith));
      wrote_is = p.wrote_is ∙ out_is (over_cut o.mark o.bytes a b (omega arith)) (omega arith) refl;
    }

-- a printer's room as an output of its own
pub printed : {t to ys : List ℕ} {k l : ℕ} {r : Bool} → Added t (record { bytes = to; mark = 0; lost = 0 }) (record { bytes = ys; mark = k; lost = l }) r → Piece t to ys k r
unfolding fits during
printed {t = t} {to = to} p =
    record {
      length_is = ap (λ (z : Out). z.mark) p.wrote_is ∙ omega arith;
      whole_is = p.whole_is ∙ ap (λ (z : ℕ). leb (length t) z) (omega arith);
      laid_is = ap (λ (z : Out). z.bytes) p.wrote_is;
    }

-- what a printer answers that wrote with a new writer
pub answered : {t to ys : List ℕ} {k : ℕ} {b r : Bool} {w w' : Writer} → w ≡ fresh → k ≡ w'.mark → b ≡ r → Added t (out_of w to) (out_of w' ys) r → Piece t to ys k b
answered {t = t} {to = to} {ys = ys} {r = r} {w' = w'} new size whole p =
    let q = printed (subst (λ (z : Writer). Added t (out_of z to) (out_of w' ys) r) new p) in
    record { length_is = size ∙ q.length_is; whole_is = whole ∙ q.whole_is; laid_is = q.laid_is }
