-- The mixed value shows what a kind of value shows.
use Rattle.std.specs.Prelude.{◌≡◌, ℕ, ◌+◌, ◌/◌, ◌<◌, ◌≤◌, true, false, [], ◌∷◌, ◌++◌, refl}
use Rattle.std.proofs.Common.{ap, arith}
use Rattle.std.proofs.lemmas.Bool.Decides.{nat_tests}
use Rattle.tokens.specs.Limits.{top_uses}
use Rattle.token_pool.specs.Pools.{PoolModel, there}
use Rattle.values.specs.Laws.{Laws}
use Rattle.values.specs.Names.{name_text}
use Rattle.values.specs.Ops.{Stands, one}
use Rattle.values.specs.Readings.{Reading, number, dimension, tokens, nil, in_bounds, suits}
use Rattle.mixed.specs.Texts.{reading_text}
use Rattle.mixed.specs.Mixeds.{slot, class_in, is_zero, bounded, fits, reads_as, made_of, makes, taken_use, dropped_use, uses_of, mixed_ops}
use Rattle.mixed.specs.declared.mixed.Mixed.{Mixed}
use Rattle.mixed.specs.declared.mixed.Mixed.TheVariants.{Zero, Number, Dimension, List as Listed}

-- zero has one form
sole : (v : Mixed) → is_zero v ≡ true → v ≡ Zero
sole Zero e = refl
sole (Number z) e = grind (arith, nat_tests)
sole (Dimension z) e = grind (arith, nat_tests)
sole (Listed b) e = grind (arith, nat_tests)

-- what fits at a place reads as something that suits its class
fits_suits : (v : Mixed) (m : PoolModel) (p : ℕ) → mixed_ops.register p ≡ true → fits v p ≡ true → Stands mixed_ops v m → suits (reads_as v m p) (class_in (slot p)) ≡ true
fits_suits Zero m p h f s = grind (arith, nat_tests)
fits_suits (Number z) m p h f s = grind (arith, nat_tests)
fits_suits (Dimension z) m p h f s = grind (arith, nat_tests)
fits_suits (Listed b) m p h f s = grind (arith, nat_tests)

-- what is made of a reading is zero just where that is nothing
made_zero : (r : Reading) (b p : ℕ) → suits r (class_in (slot p)) ≡ true → is_zero (made_of r b) ≡ nil r
made_zero (number z) b p h = grind (arith, nat_tests)
made_zero (dimension z) b p h = grind (arith, nat_tests)
made_zero (tokens []) b p h = refl
made_zero (tokens (t ∷ ts)) b p h = grind (arith, nat_tests)

-- what is made of a reading within its bounds is within its own
made_bounded : (r : Reading) (b p : ℕ) → suits r (class_in (slot p)) ≡ true → in_bounds r ≡ true → bounded (made_of r b) ≡ true
made_bounded (number z) b p h i = grind (arith, nat_tests)
made_bounded (dimension z) b p h i = grind (arith, nat_tests)
made_bounded (tokens []) b p h i = refl
made_bounded (tokens (t ∷ ts)) b p h i = refl

-- it fits where the reading stands
made_fits : (r : Reading) (b p : ℕ) → mixed_ops.register p ≡ true → suits r (class_in (slot p)) ≡ true → fits (made_of r b) p ≡ true
made_fits (number z) b p k h = grind (arith, nat_tests)
made_fits (dimension z) b p k h = grind (arith, nat_tests)
made_fits (tokens []) b p k h = grind (arith, nat_tests)
made_fits (tokens (t ∷ ts)) b p k h = grind (arith, nat_tests)

-- its list is there once it is made
made_stands : (r : Reading) (b : ℕ) (m : PoolModel) → there m b ≡ false → Stands mixed_ops (made_of r b) (makes r b m)
made_stands (number z) b m off c e = grind (arith, nat_tests)
made_stands (dimension z) b m off c e = grind (arith, nat_tests)
made_stands (tokens []) b m off c e = grind (arith, nat_tests)
made_stands (tokens (t ∷ ts)) b m off c e = grind (arith, nat_tests)

-- it reads as the reading
made_reads : (r : Reading) (b p : ℕ) (m : PoolModel) → there m b ≡ false → suits r (class_in (slot p)) ≡ true → reads_as (made_of r b) (makes r b m) p ≡ r
made_reads (number z) b p m off h = grind (arith, nat_tests)
made_reads (dimension z) b p m off h = grind (arith, nat_tests)
made_reads (tokens []) b p m off h = grind (arith, nat_tests)
made_reads (tokens (t ∷ ts)) b p m off h = grind (arith, nat_tests)

-- no use is counted yet
makes_uses : (r : Reading) (b c : ℕ) (m : PoolModel) → there m b ≡ false → uses_of (makes r b m) c ≡ uses_of m c
makes_uses (number z) b c m off = refl
makes_uses (dimension z) b c m off = refl
makes_uses (tokens []) b c m off = refl
makes_uses (tokens (t ∷ ts)) b c m off = grind (arith, nat_tests)

-- what stood before reads as it did
makes_keeps : (r : Reading) (b p : ℕ) (m : PoolModel) (v : Mixed) → there m b ≡ false → Stands mixed_ops v m → Stands mixed_ops v (makes r b m) → reads_as v (makes r b m) p ≡ reads_as v m p
makes_keeps (number z) b p m v off s u = refl
makes_keeps (dimension z) b p m v off s u = refl
makes_keeps (tokens []) b p m v off s u = refl
makes_keeps (tokens (t ∷ ts)) b p m Zero off s u = refl
makes_keeps (tokens (t ∷ ts)) b p m (Number z) off s u = refl
makes_keeps (tokens (t ∷ ts)) b p m (Dimension z) off s u = refl
makes_keeps (tokens (t ∷ ts)) b p m (Listed c) off s u = grind (arith, nat_tests)

-- a use taken counts one more for its list alone
taken_uses : (v : Mixed) (m : PoolModel) (b : ℕ) → Stands mixed_ops v m → uses_of m b < top_uses → uses_of (taken_use v m) b ≡ uses_of m b + one mixed_ops b v
taken_uses Zero m b s few = grind (arith, nat_tests)
taken_uses (Number z) m b s few = grind (arith, nat_tests)
taken_uses (Dimension z) m b s few = grind (arith, nat_tests)
taken_uses (Listed c) m b s few = grind (arith, nat_tests)

-- no reading changes by it
taken_keeps : (v w : Mixed) (m : PoolModel) (p : ℕ) → Stands mixed_ops w m → Stands mixed_ops w (taken_use v m) → reads_as w (taken_use v m) p ≡ reads_as w m p
taken_keeps Zero w m p s u = refl
taken_keeps (Number z) w m p s u = refl
taken_keeps (Dimension z) w m p s u = refl
taken_keeps (Listed b) Zero m p s u = refl
taken_keeps (Listed b) (Number z) m p s u = refl
taken_keeps (Listed b) (Dimension z) m p s u = refl
taken_keeps (Listed b) (Listed c) m p s u = grind (arith, nat_tests)

-- a use dropped counts one less for its list alone
dropped_uses : (v : Mixed) (m : PoolModel) (b : ℕ) → one mixed_ops b v ≤ uses_of m b → uses_of (dropped_use v m) b + one mixed_ops b v ≡ uses_of m b
dropped_uses Zero m b h = grind (arith, nat_tests)
dropped_uses (Number z) m b h = grind (arith, nat_tests)
dropped_uses (Dimension z) m b h = grind (arith, nat_tests)
dropped_uses (Listed c) m b h = grind (arith, nat_tests)

-- what still stands reads as it did
dropped_keeps : (v w : Mixed) (m : PoolModel) (p : ℕ) → Stands mixed_ops w m → Stands mixed_ops w (dropped_use v m) → reads_as w (dropped_use v m) p ≡ reads_as w m p
dropped_keeps Zero w m p s u = refl
dropped_keeps (Number z) w m p s u = refl
dropped_keeps (Dimension z) w m p s u = refl
dropped_keeps (Listed b) Zero m p s u = refl
dropped_keeps (Listed b) (Number z) m p s u = refl
dropped_keeps (Listed b) (Dimension z) m p s u = refl
dropped_keeps (Listed b) (Listed c) m p s u = grind (arith, nat_tests)

-- the laws
pub mixed_laws : Laws mixed_ops
mixed_laws = record {
  zero_is = refl;
  sole = sole;
  zero_bounded = refl;
  zero_bare = λ b. refl;
  zero_reads = λ m p. refl;
  fits_suits = fits_suits;
  shown_as_read = λ v w m n p e. ap (λ (r : Reading). name_text (class_in (slot p)) (p / 4) ++ reading_text r) e;
  used_there = λ m b h. grind (arith, nat_tests);
  made_zero = made_zero;
  made_bounded = made_bounded;
  made_fits = made_fits;
  made_stands = made_stands;
  made_reads = made_reads;
  makes_uses = makes_uses;
  makes_keeps = makes_keeps;
  taken_uses = taken_uses;
  taken_keeps = taken_keeps;
  dropped_uses = dropped_uses;
  dropped_keeps = dropped_keeps;
}
