-- Nodes of which none holds a blank cell, before and after a change.
use Rattle.std.proofs.Common.{◌≡◌, ℕ, Bool, true, false, List, [], ◌∷◌, Some, refl, arith}
use Rattle.std.proofs.lemmas.Bool.{and_parts}
use Rattle.std.proofs.lemmas.Bool.Decides.{nat_tests}
use Rattle.stores.specs.Cells.{is_blank}
use Rattle.stores.specs.declared.cell.Cell.{Cell}
use Rattle.sparse.specs.Listing.{all_filled, found, first_from, ins, del, over}
use Rattle.sparse.specs.declared.node.Node.{Node}

-- a cell is blank or not
pub clash : {A : Type 0} {b : Bool} → false ≡ b → true ≡ b → A
clash e f = cc

module _ {V : Type 0} (is_zero : V → Bool) where
  behind_filled : (x : Node V) (xs : List (Node V)) → all_filled is_zero (x ∷ xs) ≡ true → all_filled is_zero xs ≡ true
  behind_filled x xs h = (and_parts _ _ h).1

  -- what is found is not blank
  pub found_filled : (p : ℕ) (xs : List (Node V)) (c : Cell V) → all_filled is_zero xs ≡ true → found p xs ≡ Some c → false ≡ is_blank is_zero c
  found_filled p [] c h e = cc
  found_filled p (x ∷ xs) c h e = let rest = found_filled p xs c (behind_filled x xs h) in grind (arith, nat_tests)

  pub first_filled : (p : ℕ) (xs : List (Node V)) (y : Node V) → all_filled is_zero xs ≡ true → first_from p xs ≡ Some y → false ≡ is_blank is_zero y.cell
  first_filled p [] y h e = cc
  first_filled p (x ∷ xs) y h e = let rest = first_filled p xs y (behind_filled x xs h) in grind (arith, nat_tests)

  -- a node more, a node less, and another cell in a node
  pub ins_filled : (v : Node V) (xs : List (Node V)) → all_filled is_zero xs ≡ true → false ≡ is_blank is_zero v.cell → all_filled is_zero (ins v xs) ≡ true
  ins_filled v [] h e = grind (arith, nat_tests)
  ins_filled v (x ∷ xs) h e = let rest = ins_filled v xs (behind_filled x xs h) e in grind (arith, nat_tests)

  pub del_filled : (p : ℕ) (xs : List (Node V)) → all_filled is_zero xs ≡ true → all_filled is_zero (del p xs) ≡ true
  del_filled p [] h = refl
  del_filled p (x ∷ xs) h = let rest = del_filled p xs (behind_filled x xs h) in grind (arith, nat_tests)

  pub over_filled : (p : ℕ) (c : Cell V) (xs : List (Node V)) → all_filled is_zero xs ≡ true → false ≡ is_blank is_zero c → all_filled is_zero (over p c xs) ≡ true
  over_filled p c [] h e = refl
  over_filled p c (x ∷ xs) h e = let rest = over_filled p c xs (behind_filled x xs h) e in grind (arith, nat_tests)
