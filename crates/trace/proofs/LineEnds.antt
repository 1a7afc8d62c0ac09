-- The end of a line: completed, or lost.
use Rattle.std.proofs.Common.{◌≡◌, ℕ, ◌+◌, ◌<◌, ◌≤◌, min, Bool, true, false, cond, List, sym, refl, ap, subst, ◌∙◌, arith, eq-eqb, ne_eqb}
use Rattle.tokens.specs.Limits.{top_lost}
use Rattle.output.specs.Text.{Out, Added, during, counted, stands, wrote}
use Rattle.output.specs.Writers.{out_of}
use Rattle.output.specs.declared.writer.Writer.{Writer}
use Rattle.output.proofs.Rooms.{out_is}
use Rattle.trace.specs.Ends.{ended}

-- where no line was lost, a line is written if it fits, and else lost
first : {t : List ℕ} {o s : Out} {r : Bool} → o.lost ≤ 0 → Added t o s r → cond r (during o t) (counted o (during o t).bytes) ≡ wrote o t
unfolding wrote
first {o = o} h p = simp (eq-eqb o.lost 0 (omega arith), p.whole_is)

-- the end of a line, from the output that it began on
ended_as : {t bs : List ℕ} {o : Out} {x w' : Writer} (r : Bool) → w' ≡ ended r o.mark x → o.lost ≤ 0 → Added t o (out_of x bs) r → out_of w' bs ≡ wrote o t
unfolding during
ended_as {bs = bs} true e h p = ap (λ (z : Writer). out_of z bs) e ∙ p.wrote_is ∙ first h p
ended_as {bs = bs} false e h p =
    ap (λ (z : Writer). out_of z bs) e
    ∙ out_is (ap (λ (z : Out). z.bytes) p.wrote_is) refl (ap (λ (z : Out). min (z.lost + 1) top_lost) p.wrote_is)
    ∙ first h p

-- the end of a line whose text was added: it began at s with the writer v, which was w
pub line : {t bs bs' : List ℕ} {v w x w' : Writer} {s : ℕ} {r : Bool} → v ≡ w → s ≡ w.mark → w' ≡ ended r s x → v.lost ≤ 0
    → Added t (out_of v bs) (out_of x bs') r → out_of w' bs' ≡ wrote (out_of w bs) t
line {t = t} {bs = bs} {v = v} {x = x} {w' = w'} {r = r} began at e h p =
    let same = at ∙ sym (ap (λ (z : Writer). z.mark) began) in
    ended_as r (subst (λ (m : ℕ). w' ≡ ended r m x) same e) h p ∙ ap (λ (z : Writer). wrote (out_of z bs) t) began

-- whether it stands is whether all of it was added
pub stood : {t bs : List ℕ} {v w : Writer} {s : Out} {r : Bool} → v ≡ w → v.lost ≤ 0 → Added t (out_of v bs) s r → r ≡ stands (out_of w bs) t
unfolding stands
stood {t = t} {bs = bs} {v = v} {r = r} began h p =
    let here : r ≡ stands (out_of v bs) t = simp (eq-eqb v.lost 0 (omega arith), p.whole_is) in
    here ∙ ap (λ (z : Writer). stands (out_of z bs) t) began

-- a line after a lost one
pub skipped : {bs : List ℕ} {v w w' : Writer} {d : Bool} {s : ℕ} (t : List ℕ) → v ≡ w → s ≡ w.mark → d ≡ false → w' ≡ ended d s v → 0 < v.lost
    → out_of w' bs ≡ wrote (out_of w bs) t
unfolding wrote
skipped {bs = bs} {w = w} {w' = w'} t began at done e h =
    let k : 0 < w.lost = subst (λ (z : Writer). 0 < z.lost) began h in
    let q : w' ≡ ended false w.mark w = cc in
    ap (λ (z : Writer). out_of z bs) q ∙ simp (ne_eqb w.lost 0 (omega arith))

-- it does not stand
pub unstood : {v w : Writer} (bs t : List ℕ) → v ≡ w → 0 < v.lost → false ≡ stands (out_of w bs) t
unfolding stands
unstood {v = v} bs t began h =
    let here : false ≡ stands (out_of v bs) t = simp (ne_eqb v.lost 0 (omega arith)) in
    here ∙ ap (λ (z : Writer). stands (out_of z bs) t) began
