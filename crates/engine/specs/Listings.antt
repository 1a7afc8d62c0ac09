-- The listing: every filled register on a line of its own, in order of place.
use Rattle.std.specs.Prelude.{ℕ, zero, suc, ◌+◌, Bool, true, false, cond, ◌&&◌, List, [], ◌∷◌, Ok, Err, Result}
use Rattle.tokens.specs.declared.refusal.Refusal.{Refusal}
use Rattle.tokens.specs.declared.refusal.Refusal.TheVariants.{NoLine}
use Rattle.output.specs.Text.{Out, stands, wrote}
use Rattle.values.specs.Ops.{Ops}
use Rattle.stores.specs.Cells.{is_blank}
use Rattle.stores.specs.Stores.{StoreModel}
use Rattle.trace.specs.Lines.{listed}

-- the line of the register at a place
abbrev pub line_at : {V M : Type 0} → Ops V M → StoreModel V → M → ℕ → List ℕ
line_at k s m p = listed (k.shown (s.cells p).value m p)

-- the lines of the filled ones among n places from p on
abbrev pub lines_from : {V M : Type 0} → Ops V M → StoreModel V → M → ℕ → ℕ → List (List ℕ)
lines_from k s m p zero = []
lines_from k s m p (suc n) = cond (is_blank k.is_zero (s.cells p)) (lines_from k s m (p + 1) n) (line_at k s m p ∷ lines_from k s m (p + 1) n)

-- all lines of a store
abbrev pub listing_lines : {V M : Type 0} → Ops V M → StoreModel V → M → List (List ℕ)
listing_lines k s m = lines_from k s m 0 s.reach

-- lines are written up to the first that does not stand
abbrev pub listed_to : Out → List (List ℕ) → Out
listed_to o [] = o
listed_to o (l ∷ ls) = cond (stands o l) (listed_to (wrote o l) ls) (wrote o l)

-- whether all of them stand
abbrev pub all_stand : Out → List (List ℕ) → Bool
all_stand o [] = true
all_stand o (l ∷ ls) = stands o l && all_stand (wrote o l) ls

-- the answer of a listing
abbrev pub listing_answer : Bool → Result Unit Refusal
listing_answer true = Ok tt
listing_answer false = Err NoLine
