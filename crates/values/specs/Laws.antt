-- What a kind of value shows.
use Rattle.std.specs.Prelude.{◌≡◌, ℕ, ◌+◌, ◌<◌, ◌≤◌, true, false}
use Rattle.tokens.specs.Limits.{top_uses}
use Rattle.values.specs.Readings.{Reading, zero_at, nil, in_bounds, suits}
use Rattle.values.specs.Ops.{Ops, names, one, Stands}

-- the laws of a kind of value
pub record Laws {V M : Type 0} (k : Ops V M) : Type 0 where
  -- zero is the one value that tests as zero, is in bounds, names no list, and reads as the zero of every class
  pub zero_is : k.is_zero k.zero ≡ true
  pub sole : (v : V) → k.is_zero v ≡ true → v ≡ k.zero
  pub zero_bounded : k.bounded k.zero ≡ true
  pub zero_bare : (b : ℕ) → names (k.list k.zero) b ≡ false
  pub zero_reads : (m : M) (p : ℕ) → k.reads k.zero m p ≡ zero_at (k.class_of p)
  -- a value that fits a register reads as its class does
  pub fits_suits : (v : V) (m : M) (p : ℕ) → k.register p ≡ true → k.fits v p ≡ true → Stands k v m → suits (k.reads v m p) (k.class_of p) ≡ true
  -- what is printed depends on what is read
  pub shown_as_read : (v w : V) (m n : M) (p : ℕ) → k.reads v m p ≡ k.reads w n p → k.shown v m p ≡ k.shown w n p
  -- a list that is in use is there
  pub used_there : (m : M) (b : ℕ) → 0 < k.uses m b → k.there m b ≡ true
  -- a value made of a reading reads so where that can stand, is zero for a zero, and changes no count and nothing that is there
  pub made_zero : (r : Reading) (b p : ℕ) → suits r (k.class_of p) ≡ true → k.is_zero (k.made r b) ≡ nil r
  pub made_bounded : (r : Reading) (b p : ℕ) → suits r (k.class_of p) ≡ true → in_bounds r ≡ true → k.bounded (k.made r b) ≡ true
  pub made_fits : (r : Reading) (b p : ℕ) → k.register p ≡ true → suits r (k.class_of p) ≡ true → k.fits (k.made r b) p ≡ true
  pub made_stands : (r : Reading) (b : ℕ) (m : M) → k.there m b ≡ false → Stands k (k.made r b) (k.makes r b m)
  pub made_reads : (r : Reading) (b p : ℕ) (m : M) → k.there m b ≡ false → suits r (k.class_of p) ≡ true → k.reads (k.made r b) (k.makes r b m) p ≡ r
  pub makes_uses : (r : Reading) (b c : ℕ) (m : M) → k.there m b ≡ false → k.uses (k.makes r b m) c ≡ k.uses m c
  pub makes_keeps : (r : Reading) (b p : ℕ) (m : M) (v : V) → k.there m b ≡ false → Stands k v m → Stands k v (k.makes r b m) → k.reads v (k.makes r b m) p ≡ k.reads v m p
  -- a use taken adds one to the value's own list, and changes nothing that is there
  pub taken_uses : (v : V) (m : M) (b : ℕ) → Stands k v m → k.uses m b < top_uses → k.uses (k.taken v m) b ≡ k.uses m b + one k b v
  pub taken_keeps : (v w : V) (m : M) (p : ℕ) → Stands k w m → Stands k w (k.taken v m) → k.reads w (k.taken v m) p ≡ k.reads w m p
  -- a use dropped takes one off, and changes nothing that stays
  pub dropped_uses : (v : V) (m : M) (b : ℕ) → one k b v ≤ k.uses m b → k.uses (k.dropped v m) b + one k b v ≡ k.uses m b
  pub dropped_keeps : (v w : V) (m : M) (p : ℕ) → Stands k w m → Stands k w (k.dropped v m) → k.reads w (k.dropped v m) p ≡ k.reads w m p
