-- A stack as the reverse of the front of a row.
use Rattle.std.proofs.Common.{◌≡◌, ℕ, ◌+◌, ◌-◌, ◌≤◌, min, List, [], ◌∷◌, reverse, length, take, Some, sym, refl, ap, ◌∙◌, arith}
use Rattle.std.specs.List.{IsLastAndRest}
use Rattle.std.proofs.lemmas.List.{reverse-append, take_min, take-take, length-take}
use Rattle.std.proofs.Math.Seq.{take-append_seam}
use Rattle.save_stack.specs.Stacks.{row_of, newest, under}

-- the newest entry of the part of a row that is in use, and the rest of that part
module _ {E : Type 0} (xs : List E) (n u : ℕ) (e : E) (rest : List E) (used : u ≡ min n (length xs)) (parts : IsLastAndRest (take u xs) e rest) where
  split : reverse (take n xs) ≡ e ∷ reverse rest
  split = ap reverse (sym (take_min n xs) ∙ ap (λ (k : ℕ). take k xs) (sym used) ∙ parts.0) ∙ reverse-append rest (e ∷ [])

  long : length rest + 1 ≡ u
  long = let all = length-take u xs in let one = parts.1 in omega arith

  below : take (length rest) xs ≡ rest
  below =
      let less : length rest ≤ u = omega (arith, long) in
      sym (take-take (length rest) u xs less) ∙ ap (take (length rest)) parts.0 ∙ take-append_seam rest (e ∷ [])

  pub pop_some : Some e ≡ newest (row_of n xs).held
  pop_some = sym (ap newest split)

  pub pop_after : row_of (length rest) xs ≡ under (row_of n xs) (row_of n xs).held
  pop_after =
      let room : length xs - length rest ≡ (length xs - n) + 1 = omega (arith, long) in
      rw (split, below, room) refl
