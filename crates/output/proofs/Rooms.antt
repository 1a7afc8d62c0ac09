-- Texts laid over a room, and a room that is the rest of an output.
use Rattle.std.proofs.Common.{◌≡◌, ℕ, zero, suc, ◌+◌, ◌-◌, ◌<◌, ◌≤◌, min, Bool, leb, List, [], ◌∷◌, ◌++◌, length, take, drop, sym, refl, ap, ◌∙◌, ⊎_elim, append-nil, arith, length-append, length-drop, length-take}
use borrow.Rule.Slice.PartMut.{put_mid, Post-is}
use Rattle.std.proofs.lemmas.List.{drop_all, take_all}
use Rattle.std.proofs.lemmas.Slice.{between_to_end}
use Rattle.std.proofs.lemmas.Bool.{cases_lt}
use Rattle.output.specs.Text.{Out, Piece, Added, laid, fits, during}

pub laid_none : (b : List ℕ) → laid b [] ≡ []
laid_none [] = refl
laid_none (x ∷ b) = refl

length_laid : (a r : List ℕ) → length (laid a r) ≡ length r
length_laid [] r = refl
length_laid (x ∷ a) [] = refl
length_laid (x ∷ a) (y ∷ r) = ap suc (length_laid a r)

pub length_over : (m : ℕ) (bs a : List ℕ) → length (take m bs ++ laid a (drop m bs)) ≡ length bs
length_over m bs a = length-append (take m bs) (laid a (drop m bs)) ∙ omega (arith, length-take m bs, length_laid a (drop m bs), length-drop m bs)

-- what fits of a text, copied over the room's start
pub copied : (n : ℕ) (text to : List ℕ) → n ≡ min (length text) (length to) → take n text ++ drop n to ≡ laid text to
copied zero [] to e = refl
copied (suc n) [] to e = absurd (omega arith)
copied zero (x ∷ text) [] e = refl
copied (suc n) (x ∷ text) [] e = absurd (omega arith)
copied zero (x ∷ text) (y ∷ to) e = absurd (omega arith)
copied (suc n) (x ∷ text) (y ∷ to) e = ap (λ (z : List ℕ). x ∷ z) (copied n text to (omega arith))

-- a text laid over the room from a place on
to_end : (a : ℕ) (xs : List ℕ) → take (length xs - a) (drop a xs) ≡ drop a xs
to_end a xs = between_to_end xs a (length xs) (omega arith)

room : (a : ℕ) (xs : List ℕ) → length (take (length xs - a) (drop a xs)) ≡ length xs - a
room a xs = ap length (to_end a xs) ∙ length-drop a xs

lent : (a : ℕ) (xs ys text : List ℕ) → a ≤ length xs → ys ≡ laid text (take (length xs - a) (drop a xs)) → put_mid a (length xs - a) xs ys ≡ take a xs ++ laid text (drop a xs)
lent a xs ys text h e =
    ap (λ (z : List ℕ). take a xs ++ (ys ++ z)) (Post-is a (length xs) xs h ∙ drop_all (length xs) xs (omega arith))
    ∙ ap (λ (z : List ℕ). take a xs ++ z) (append-nil ys ∙ e ∙ ap (λ (z : List ℕ). laid text z) (to_end a xs))

pub out_is : {bs bs' : List ℕ} {m m' l l' : ℕ} → bs ≡ bs' → m ≡ m' → l ≡ l' → ◌≡◌ {A = Out} (record { bytes = bs; mark = m; lost = l }) (record { bytes = bs'; mark = m'; lost = l' })
out_is p q r = cc

-- a mark past the end leaves no room, as one at the end does
clamped : (a m : ℕ) (xs text : List ℕ) → a ≡ min m (length xs) → take a xs ++ laid text (drop a xs) ≡ take m xs ++ laid text (drop m xs)
clamped a m xs text e =
    ⊎_elim
    (λ (h : m < length xs). let f : a ≡ m = omega arith in ap (λ (z : ℕ). take z xs ++ laid text (drop z xs)) f)
    (λ (h : length xs ≤ m).
    let p : take a xs ≡ take m xs = take_all a xs (omega arith) ∙ sym (take_all m xs h) in
    let q : drop a xs ≡ drop m xs = drop_all a xs (omega arith) ∙ sym (drop_all m xs h) in
    cc)
    (cases_lt m (length xs))

-- a printer that was lent the rest of the output has added its text to the line
pub added : {k : ℕ} {r : Bool} {text ys : List ℕ} (a m l : ℕ) (bs : List ℕ) → a ≡ min m (length bs)
    → Piece text (take (length bs - a) (drop a bs)) ys k r
    → Added text (record { bytes = bs; mark = m; lost = l }) (record { bytes = put_mid a (length bs - a) bs ys; mark = m + k; lost = l }) r
unfolding fits during
added {text = text} {ys = ys} a m l bs h p =
    let e = lent a bs ys text (omega arith) p.laid_is in
    let r = room a bs in
    let n : length bs - a ≡ length bs - m = omega arith in
    record {
      whole_is = p.whole_is ∙ ap (λ (z : ℕ). leb (length text) z) (r ∙ n);
      wrote_is = out_is (e ∙ clamped a m bs text h) (omega (arith, p.length_is)) refl;
    }
