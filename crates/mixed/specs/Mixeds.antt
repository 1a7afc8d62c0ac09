-- The mixed value as a kind of value: the large model.
use Rattle.std.specs.Prelude.{ℕ, ◌/◌, ◌%◌, Bool, true, false, cond, not, ◌&&◌, [], ◌∷◌, ◌++◌, ℤ, Some, None, Option, ◌==◌, nat_le, nat_lt, unsigned_abs}
use Rattle.tokens.specs.Limits.{top_reach, top_number, top_dimension}
use Rattle.tokens.specs.declared.class.Class.{Class}
use Rattle.tokens.specs.declared.class.Class.TheVariants.{Count, Dimen, Toks}
use Rattle.token_pool.specs.Pools.{PoolModel, there, made, takes, taken, dropped}
use Rattle.values.specs.Names.{name_text}
use Rattle.values.specs.Ops.{Ops}
use Rattle.values.specs.Readings.{Reading, number, dimension, tokens, zero_at, is_nil}
use Rattle.mixed.specs.Texts.{reading_text}
use Rattle.mixed.specs.declared.mixed.Mixed.{Mixed}
use Rattle.mixed.specs.declared.mixed.Mixed.TheVariants.{Zero, Number, Dimension, List as Listed}

-- register n of class c is place 4n + c, with c = 0 for counts, 1 for dimensions and 3 for lists; 2 is free
abbrev pub slot : ℕ → ℕ
slot p = p % 4

-- the class by the slot; the free one has none, and stands with the counts
abbrev pub class_in : ℕ → Class
class_in s = cond (s == 1) Dimen (cond (s == 3) Toks Count)

-- whether the value is zero
abbrev pub is_zero : Mixed → Bool
is_zero Zero = true
is_zero (Number z) = false
is_zero (Dimension z) = false
is_zero (Listed b) = false

-- within its bounds, and no zero in another form
abbrev pub bounded : Mixed → Bool
bounded Zero = true
bounded (Number z) = nat_le (unsigned_abs z) top_number && not (is_nil z)
bounded (Dimension z) = nat_le (unsigned_abs z) top_dimension && not (is_nil z)
bounded (Listed b) = true

-- zero stands at every class, the others at their own
abbrev pub fits : Mixed → ℕ → Bool
fits Zero p = not (slot p == 2)
fits (Number z) p = slot p == 0
fits (Dimension z) p = slot p == 1
fits (Listed b) p = slot p == 3

-- the list that the value names
abbrev pub list_of : Mixed → Option ℕ
list_of Zero = None
list_of (Number z) = None
list_of (Dimension z) = None
list_of (Listed b) = Some b

-- what the value reads as at a place
abbrev pub reads_as : Mixed → PoolModel → ℕ → Reading
reads_as Zero m p = zero_at (class_in (slot p))
reads_as (Number z) m p = number z
reads_as (Dimension z) m p = dimension z
reads_as (Listed b) m p = tokens (m.list b)

-- a number or a dimension as a value
abbrev pub number_of : ℤ → Mixed
number_of z = cond (is_nil z) Zero (Number z)

-- the same of a dimension
abbrev pub dimension_of : ℤ → Mixed
dimension_of z = cond (is_nil z) Zero (Dimension z)

-- a reading as a value
abbrev pub made_of : Reading → ℕ → Mixed
made_of (number z) b = number_of z
made_of (dimension z) b = dimension_of z
made_of (tokens []) b = Zero
made_of (tokens (t ∷ ts)) b = Listed b

-- the pool once it is made
abbrev pub makes : Reading → ℕ → PoolModel → PoolModel
makes (number z) b m = m
makes (dimension z) b m = m
makes (tokens []) b m = m
makes (tokens (t ∷ ts)) b m = made m b (t ∷ ts)

-- whether a use is taken
abbrev pub takes_use : Mixed → PoolModel → Bool
takes_use Zero m = true
takes_use (Number z) m = true
takes_use (Dimension z) m = true
takes_use (Listed b) m = takes m b

-- the pool once a use is taken
abbrev pub taken_use : Mixed → PoolModel → PoolModel
taken_use Zero m = m
taken_use (Number z) m = m
taken_use (Dimension z) m = m
taken_use (Listed b) m = taken m b

-- whether a use is dropped
abbrev pub drops_use : Mixed → PoolModel → Bool
drops_use Zero m = true
drops_use (Number z) m = true
drops_use (Dimension z) m = true
drops_use (Listed b) m = there m b

-- the pool once a use is dropped
abbrev pub dropped_use : Mixed → PoolModel → PoolModel
dropped_use Zero m = m
dropped_use (Number z) m = m
dropped_use (Dimension z) m = m
dropped_use (Listed b) m = dropped m b

-- the count of a list, 0 if it is not there
abbrev pub uses_of : PoolModel → ℕ → ℕ
uses_of m b = cond (there m b) (m.count b) 0

-- the operations of the mixed value
abbrev pub mixed_ops : Ops Mixed PoolModel
mixed_ops = record {
  zero = Zero;
  is_zero = is_zero;
  bounded = bounded;
  fits = fits;
  register = λ p. nat_lt p top_reach && not (slot p == 2);
  class_of = λ p. class_in (slot p);
  list = list_of;
  there = there;
  uses = uses_of;
  free = λ m. m.free;
  reads = reads_as;
  shown = λ v m p. name_text (class_in (slot p)) (p / 4) ++ reading_text (reads_as v m p);
  made = made_of;
  makes = makes;
  takes = takes_use;
  taken = taken_use;
  drops = drops_use;
  dropped = dropped_use;
}
