-- What a kind of value does: V are the values, M is what their pool means.
use Rattle.std.specs.Prelude.{◌≡◌, ℕ, Bool, true, false, cond, List, Some, None, Option, ◌==◌, nat_lt}
use Rattle.tokens.specs.declared.class.Class.{Class}
use Rattle.values.specs.Readings.{Reading, cost}

-- the operations of a kind of value
pub record Ops (V M : Type 0) : Type 0 where
  pub zero : V
  pub is_zero : V → Bool
  -- within its bounds, and in the one form that its reading has
  pub bounded : V → Bool
  pub fits : V → ℕ → Bool
  -- which places are registers, and of what class
  pub register : ℕ → Bool
  pub class_of : ℕ → Class
  -- the shared list that a value names; whether a list is there; its count, 0 if it is not; the free nodes
  pub list : V → Option ℕ
  pub there : M → ℕ → Bool
  pub uses : M → ℕ → ℕ
  pub free : M → ℕ
  -- what a value reads as at a place, and how a register that holds it prints
  pub reads : V → M → ℕ → Reading
  pub shown : V → M → ℕ → List ℕ
  -- a reading made into a value, as the list b if it needs one, and the pool after it
  pub made : Reading → ℕ → V
  pub makes : Reading → ℕ → M → M
  -- whether a use is taken or dropped, and the pool after it
  pub takes : V → M → Bool
  pub taken : V → M → M
  pub drops : V → M → Bool
  pub dropped : V → M → M

-- whether a name is the list b's
abbrev pub names : Option ℕ → ℕ → Bool
names None b = false
names (Some c) b = c == b

-- 1 if the value holds the list b, else 0
abbrev pub one : {V M : Type 0} → Ops V M → ℕ → V → ℕ
one k b v = cond (names (k.list v) b) 1 0

-- the list of the value, if it names one, is there
abbrev pub Stands : {V M : Type 0} → Ops V M → V → M → Type 0
Stands k v m = (b : ℕ) → names (k.list v) b ≡ true → k.there m b ≡ true

-- the same as a test
abbrev pub standing : (ℕ → Bool) → Option ℕ → Bool
standing there None = true
standing there (Some b) = there b

-- whether the list of the value, if it names one, is there
abbrev pub list_stands : {V M : Type 0} → Ops V M → V → M → Bool
list_stands k v m = standing (k.there m) (k.list v)

-- the value v is made of the reading r: m and n are the pool before and after
pub record MadeOf {V M : Type 0} (k : Ops V M) (r : Reading) (m n : M) (v : V) : Type 0 where
  pub at : ℕ
  pub absent : k.there m at ≡ false
  pub value : v ≡ k.made r at
  pub pool : n ≡ k.makes r at m
  pub enough : nat_lt (k.free m) (cost r) ≡ false
