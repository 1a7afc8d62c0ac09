-- Tokens that are held back, as a count.
use Rattle.std.proofs.Common.{◌≡◌, ◌+◌, Bool, not, List, [], ◌∷◌, filter, length, reverse, refl, ap, ◌∙◌, arith}
use Rattle.std.specs.List.{push, take_while}
use Rattle.std.proofs.lemmas.List.{length-append, reverse-append}
use Rattle.std.proofs.lemmas.List.Sums.{take_while-cons}
use Rattle.save_stack.specs.Entries.{is_held, is_boundary, held_in}
use Rattle.save_stack.specs.declared.entry.Entry.{Entry}
use Rattle.save_stack.specs.declared.entry.Entry.TheVariants.{Saved, Held, Boundary}

-- whether no group begins at an entry
abbrev pub is_inside : {V : Type 0} → Entry V → Bool
is_inside e = not (is_boundary e)

-- the tokens that are held back are those before the first entry where a group begins
pub held_is : {V : Type 0} (es : List (Entry V)) → length (filter is_held (take_while is_inside es)) ≡ held_in es
held_is [] = refl
held_is (Saved p c ∷ es) = ap (λ ys. length (filter is_held ys)) (take_while-cons is_inside (Saved p c) es) ∙ held_is es
held_is (Held c ∷ es) =
    let one = ap (λ ys. length (filter is_held ys)) (take_while-cons is_inside (Held c) es) in
    omega (arith, one, held_is es)
held_is (Boundary g ∷ es) = refl

-- a row with one entry more: that is the newest
pub held_push : {V : Type 0} (xs ys : List (Entry V)) (e : Entry V) → xs ≡ push ys e → held_in (reverse xs) ≡ held_in (e ∷ reverse ys)
held_push xs ys e h = ap (λ zs. held_in (reverse zs)) h ∙ ap held_in (reverse-append ys (e ∷ []))

pub long_push : {V : Type 0} (xs ys : List (Entry V)) (e : Entry V) → xs ≡ push ys e → length xs ≡ length ys + 1
long_push xs ys e h = ap length h ∙ length-append ys (e ∷ [])
