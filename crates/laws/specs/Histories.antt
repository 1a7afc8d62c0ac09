-- What calls carry out, one thing after the other.
use Rattle.std.specs.Prelude.{◌≡◌, ℕ, zero, suc, Bool, true, false, cond, not, ◌&&◌, List, [], ◌∷◌, ◌++◌, ◌==◌}
use Rattle.values.specs.Ops.{Ops}
use Rattle.values.specs.Readings.{Reading}
use Rattle.engine.specs.Tables.{Table}
use Rattle.engine.specs.Acts.{Act, opens, closes, drops, sets, holds, reading_of, passes, done, tried, after}
use Rattle.laws.specs.Calls.{Call, acts}

-- what was carried out, as far as scopes go: a group begins or ends, a register is assigned globally, or something else
pub data Event : Type 0 where
  begin : Event
  end : Event
  global : ℕ → Reading → Event
  other : Event

-- something carried out, and the table right after it
pub record Moment (V M : Type 0) : Type 0 where
  pub what : Event
  pub table : Table V M

-- what was carried out in some moments
abbrev pub events : {V M : Type 0} → List (Moment V M) → List Event
events [] = []
events (m ∷ ms) = m.what ∷ events ms

-- whether each group begun in a row of events ends in it, with n more, and none besides
abbrev pub balanced : ℕ → List Event → Bool
balanced zero [] = true
balanced (suc n) [] = false
balanced n (begin ∷ es) = balanced (suc n) es
balanced zero (end ∷ es) = false
balanced (suc n) (end ∷ es) = balanced n es
balanced n (global p r ∷ es) = balanced n es
balanced n (other ∷ es) = balanced n es

-- whether none of them assigns the register globally
abbrev pub untouched : ℕ → List Event → Bool
untouched p [] = true
untouched p (begin ∷ es) = untouched p es
untouched p (end ∷ es) = untouched p es
untouched p (global q r ∷ es) = not (q == p) && untouched p es
untouched p (other ∷ es) = untouched p es

-- a group in a history: its opening, what is inside it, and its close
pub record Spans {V M : Type 0} (history : List (Moment V M)) (opening : Moment V M) (inside : List (Moment V M)) (closing : Moment V M) : Type 0 where
  pub before : List (Moment V M)
  pub later : List (Moment V M)
  pub parts : history ≡ before ++ (opening ∷ (inside ++ (closing ∷ later)))
  pub begins : opening.what ≡ begin
  pub matches : balanced 0 (events inside) ≡ true
  pub ends : closing.what ≡ end

-- a group that is open at the end of some moments: what came before it, its opening, and what is inside it so far
pub record Opened {V M : Type 0} (moments : List (Moment V M)) : Type 0 where
  pub before : List (Moment V M)
  pub opening : Moment V M
  pub inside : List (Moment V M)
  pub parts : moments ≡ before ++ (opening ∷ inside)
  pub begins : opening.what ≡ begin
  pub matches : balanced 0 (events inside) ≡ true

module _ {V M : Type 0} (k : Ops V M) where
  -- what a call counts as where it is carried out
  abbrev pub event : Act V → Table V M → Event
  event (opens g) t = begin
  event (closes kind l) t = end
  event drops t = end
  event (sets true p s) t = global p (reading_of k s t.pool p)
  event (sets false p s) t = other
  event (holds c) t = other

  -- what is refused counts for nothing
  abbrev pub moment : Act V → Table V M → List (Moment V M)
  moment a t = cond (passes k a t) (record { what = event a t; table = done k a t } ∷ []) []

  -- the moments of some acts
  abbrev pub moments : List (Act V) → Table V M → List (Moment V M)
  moments [] t = []
  moments (a ∷ xs) t = moment a t ++ moments xs (tried k a t)

  -- the table after some calls, each taking it as the one before handed it on
  abbrev pub after_calls : List (Call V) → Table V M → Table V M
  after_calls [] t = t
  after_calls (c ∷ cs) t = after_calls cs (after k (acts c t) t)

  -- all that they carried out
  abbrev pub history : List (Call V) → Table V M → List (Moment V M)
  history [] t = []
  history (c ∷ cs) t = moments (acts c t) t ++ history cs (after k (acts c t) t)
