-- What stands at a place of nodes in order, before and after a change.
use Rattle.std.proofs.Common.{◌≡◌, ℕ, ◌+◌, ◌<◌, true, false, cond, eqb, List, [], ◌∷◌, Some, None, refl, ap, ◌∙◌, arith}
use mathlib.Core.Path.{fun_ext}
use Rattle.std.proofs.lemmas.Bool.Decides.{nat_tests}
use Rattle.std.specs.Option.{unwrap_or}
use Rattle.stores.specs.Stores.{put}
use Rattle.stores.specs.declared.cell.Cell.{Cell}
use Rattle.sparse.specs.Listing.{Ascends, Absent, look, found, ins, del, over}
use Rattle.sparse.specs.declared.node.Node.{Node}

module _ {V : Type 0} (z : Cell V) where
  -- before the first node there is none
  pub look_high : (lo hi : ℕ) (xs : List (Node V)) (q : ℕ) → Ascends lo hi xs → q < lo → look z xs q ≡ z
  look_high lo hi [] q h l = refl
  look_high lo hi (x ∷ xs) q h l = let y = h.0 in let rest = look_high (x.place + 1) hi xs q h.1 (omega arith) in grind (arith, nat_tests)

  -- what is found, or else nothing
  pub look_found : (p : ℕ) (xs : List (Node V)) → look z xs p ≡ unwrap_or (found p xs) z
  look_found p [] = refl
  look_found p (x ∷ xs) =
      let rest = look_found p xs in
      elim (eqb x.place p) as (λ b. cond b x.cell (look z xs p) ≡ unwrap_or (cond b (Some x.cell) (found p xs)) z) [ true ↦ refl | false ↦ rest ]

  pub look_some : (p : ℕ) (xs : List (Node V)) (c : Cell V) → found p xs ≡ Some c → look z xs p ≡ c
  look_some p xs c e = look_found p xs ∙ ap (λ o. unwrap_or o z) e

  pub look_none : (p : ℕ) (xs : List (Node V)) → found p xs ≡ None → look z xs p ≡ z
  look_none p xs e = look_found p xs ∙ ap (λ o. unwrap_or o z) e

  -- nothing put where there is nothing
  bare : (p : ℕ) (xs : List (Node V)) (q : ℕ) → found p xs ≡ None → look z xs q ≡ put (look z xs) p z q
  bare p xs q e = let none = look_none p xs e in grind (arith, nat_tests)

  pub put_bare : (p : ℕ) (xs : List (Node V)) → found p xs ≡ None → look z xs ≡ put (look z xs) p z
  put_bare p xs e = fun_ext (λ q. bare p xs q e)

  -- a node more
  ins_at : (v : Node V) (xs : List (Node V)) (q : ℕ) → Absent v.place xs → look z (ins v xs) q ≡ put (look z xs) v.place v.cell q
  ins_at v [] q h = refl
  ins_at v (x ∷ xs) q h = let other = h.0 in let rest = ins_at v xs q h.1 in grind (arith, nat_tests)

  pub look_ins : (v : Node V) (xs : List (Node V)) → Absent v.place xs → look z (ins v xs) ≡ put (look z xs) v.place v.cell
  look_ins v xs h = fun_ext (λ q. ins_at v xs q h)

  -- a node less
  del_at : (p lo hi : ℕ) (xs : List (Node V)) (q : ℕ) → Ascends lo hi xs → look z (del p xs) q ≡ put (look z xs) p z q
  del_at p lo hi [] q h = grind (arith, nat_tests)
  del_at p lo hi (x ∷ xs) q h =
      let rest = del_at p (x.place + 1) hi xs q h.1 in
      let gone : q < x.place + 1 → look z xs q ≡ z = λ l. look_high (x.place + 1) hi xs q h.1 l in
      grind (arith, nat_tests)

  pub look_del : (p lo hi : ℕ) (xs : List (Node V)) → Ascends lo hi xs → look z (del p xs) ≡ put (look z xs) p z
  look_del p lo hi xs h = fun_ext (λ q. del_at p lo hi xs q h)

  -- another cell in a node
  over_at : (p : ℕ) (c : Cell V) (xs : List (Node V)) (d : Cell V) (q : ℕ) → found p xs ≡ Some d → look z (over p c xs) q ≡ put (look z xs) p c q
  over_at p c [] d q h = cc
  over_at p c (x ∷ xs) d q h =
      let rest : found p xs ≡ Some d → look z (over p c xs) q ≡ put (look z xs) p c q = over_at p c xs d q in
      grind (arith, nat_tests)

  pub look_over : (p : ℕ) (c : Cell V) (xs : List (Node V)) (d : Cell V) → found p xs ≡ Some d → look z (over p c xs) ≡ put (look z xs) p c
  look_over p c xs d h = fun_ext (λ q. over_at p c xs d q h)

-- what is not found is not there
pub absent_none : {V : Type 0} (p : ℕ) (xs : List (Node V)) → found p xs ≡ None → Absent p xs
absent_none p [] h = tt
absent_none p (x ∷ xs) h = (grind (arith, nat_tests), absent_none p xs (grind (arith, nat_tests)))
