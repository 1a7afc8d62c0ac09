-- Tables as they are made are new.
use Rattle.std.proofs.Common.{◌≡◌, ℕ, refl, arith}
use Rattle.values.specs.Plains.{plain_ops}
use Rattle.mixed.specs.Mixeds.{mixed_ops}
use Rattle.stores.specs.Stores.{StoreModel}
use Rattle.save_stack.specs.Stacks.{StackModel}
use Rattle.save_stack.specs.declared.entry.Entry.{Entry}
use Rattle.engine.specs.Tables.{table_of}
use Rattle.engine.specs.declared.nesting.Nesting.{Nesting}
use Rattle.laws.specs.Calls.{New}
use Rattle.laws.specs.Made.{small_table, large_table}

-- the small model's
pub small_new : (cells entries words : ℕ) → New plain_ops (small_table cells entries words)
small_new cells entries words = record { blanks = λ p. refl; unused = λ b. refl; bottom = refl; bare = refl; reaches = omega arith; rooms = omega arith }

-- the large model's
pub large_new : (reach nodes lists entries words : ℕ) → New mixed_ops (large_table reach nodes lists entries words)
large_new reach nodes lists entries words = record { blanks = λ p. refl; unused = λ b. refl; bottom = refl; bare = refl; reaches = omega arith; rooms = omega arith }

-- tables whose parts are equal
pub same_table : {V M : Type 0} {s t : StoreModel V} {m n : M} {a b : Nesting} {d e : StackModel (Entry V)} {p q : StackModel ℕ}
    → s ≡ t → m ≡ n → a ≡ b → d ≡ e → p ≡ q → table_of s m a d p ≡ table_of t n b e q
same_table f g h k l = λ i. table_of (f i) (g i) (h i) (k i) (l i)
