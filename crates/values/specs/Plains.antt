-- Plain numbers as a kind of value: count registers alone, no lists, an empty pool.
use Rattle.std.specs.Prelude.{ℕ, true, false, ◌++◌, ℤ, pos, None, nat_le, nat_lt, unsigned_abs}
use Rattle.std.specs.Fmt.{signed_decimal}
use Rattle.tokens.specs.Limits.{top_number}
use Rattle.tokens.specs.declared.class.Class.TheVariants.{Count}
use Rattle.values.specs.Readings.{Reading, number, dimension, tokens, is_nil}
use Rattle.values.specs.Names.{name_text}
use Rattle.values.specs.Ops.{Ops}
use Rattle.values.specs.declared.plain.Plain.{Plain}

-- how many count registers there are
abbrev pub plain_counts : ℕ
plain_counts = 256

-- a number as a value
abbrev pub plain_of : ℤ → Plain
plain_of z = record { number = z }

-- a reading as a value; a dimension or a list stands nowhere
abbrev pub plain_made : Reading → Plain
plain_made (number z) = plain_of z
plain_made (dimension z) = plain_of (pos 0)
plain_made (tokens ts) = plain_of (pos 0)

-- the operations of plain numbers
abbrev pub plain_ops : Ops Plain (Unit {0})
plain_ops = record {
  zero = plain_of (pos 0);
  is_zero = λ v. is_nil v.number;
  bounded = λ v. nat_le (unsigned_abs v.number) top_number;
  fits = λ v p. true;
  register = λ p. nat_lt p plain_counts;
  class_of = λ p. Count;
  list = λ v. None;
  there = λ m b. false;
  uses = λ m b. 0;
  free = λ m. 0;
  reads = λ v m p. number v.number;
  shown = λ v m p. name_text Count p ++ signed_decimal v.number;
  made = λ r b. plain_made r;
  makes = λ r b m. m;
  takes = λ v m. true;
  taken = λ v m. m;
  drops = λ v m. true;
  dropped = λ v m. m;
}
