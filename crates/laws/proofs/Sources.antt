-- What is assigned, and the pool once a use of it is taken.
use Rattle.std.proofs.Common.{◌≡◌, ℕ, ◌+◌, ◌<◌, Bool, true, Some, None, Option, sym, refl, ap, ◌∙◌, arith, eqb-true}
use Rattle.tokens.specs.Limits.{top_uses}
use Rattle.values.specs.Readings.{tokens}
use Rattle.values.specs.Ops.{Ops, names, one, Stands, standing}
use Rattle.values.specs.Laws.{Laws}
use Rattle.engine.specs.Acts.{Source, given, fresh, value_of, reading_of, pool_of}
use Rattle.laws.proofs.Invariants.{Rests, rests_stands}
use Rattle.laws.proofs.Grants.{Good}

-- the test that a list is there says so
stands_at : (there : ℕ → Bool) (o : Option ℕ) → standing there o ≡ true → (b : ℕ) → names o b ≡ true → there b ≡ true
stands_at there None e b d = cc
stands_at there (Some c) e b d = ap there (sym (eqb-true c b d)) ∙ e

module _ {V M : Type 0} (k : Ops V M) (laws : Laws k) where
  -- a good source changes no count, stands, reads as it should at its place, and changes nothing that is there
  source_uses : (s : Source V) (m : M) (p : ℕ) → Good k s m p → (b : ℕ) → k.uses (pool_of k s m) b ≡ k.uses m b
  source_uses (given v) m p ok b = refl
  source_uses (fresh ts c) m p ok b = laws.makes_uses (tokens ts) c b m ok.0

  source_stands : (s : Source V) (m : M) (p : ℕ) → Good k s m p → Stands k (value_of k s) (pool_of k s m)
  source_stands (given v) m p ok = stands_at (k.there m) (k.list v) ok
  source_stands (fresh ts c) m p ok = laws.made_stands (tokens ts) c m ok.0

  source_reads : (s : Source V) (m : M) (p : ℕ) → Good k s m p → k.reads (value_of k s) (pool_of k s m) p ≡ reading_of k s m p
  source_reads (given v) m p ok = refl
  source_reads (fresh ts c) m p ok = laws.made_reads (tokens ts) c p m ok.0 ok.1

  source_keeps : (s : Source V) (m : M) (p : ℕ) → Good k s m p → (y : V) (q : ℕ) → Stands k y m → Stands k y (pool_of k s m) →
      k.reads y (pool_of k s m) q ≡ k.reads y m q
  source_keeps (given v) m p ok y q a b = refl
  source_keeps (fresh ts c) m p ok y q a b = laws.makes_keeps (tokens ts) c q m y ok.0 a b

  module _ (s : Source V) (m : M) (p : ℕ) (ok : Good k s m p) (few : (b : ℕ) → k.uses m b < top_uses) where
    -- the counts once the source is made and a use of it is taken
    pub uses_taken : (b : ℕ) → k.uses (k.taken (value_of k s) (pool_of k s m)) b ≡ k.uses m b + one k b (value_of k s)
    uses_taken b =
        let e = source_uses s m p ok b in
        let f = few b in
        let g = laws.taken_uses (value_of k s) (pool_of k s m) b (source_stands s m p ok) (omega arith) in
        omega arith

    -- what was in use stays in use, and so does the new value
    rests_made : (y : V) → Rests k y m → Rests k y (pool_of k s m)
    rests_made y h b = let e = source_uses s m p ok b in let g = h b in omega arith

    rests_taken : (y : V) → Rests k y m → Rests k y (k.taken (value_of k s) (pool_of k s m))
    rests_taken y h b = let e = uses_taken b in let g = h b in omega arith

    rests_new : Rests k (value_of k s) (k.taken (value_of k s) (pool_of k s m))
    rests_new b = let e = uses_taken b in omega arith

    -- what was in use reads as before
    pub keeps_taken : (y : V) (q : ℕ) → Rests k y m → k.reads y (k.taken (value_of k s) (pool_of k s m)) q ≡ k.reads y m q
    keeps_taken y q h =
        let a = rests_stands k laws y m h in
        let b = rests_stands k laws y (pool_of k s m) (rests_made y h) in
        let c = rests_stands k laws y (k.taken (value_of k s) (pool_of k s m)) (rests_taken y h) in
        laws.taken_keeps (value_of k s) y (pool_of k s m) q b c ∙ source_keeps s m p ok y q a b

    -- the new value reads as it should
    reads_taken : k.reads (value_of k s) (k.taken (value_of k s) (pool_of k s m)) p ≡ reading_of k s m p
    reads_taken =
        let c = rests_stands k laws (value_of k s) (k.taken (value_of k s) (pool_of k s m)) rests_new in
        laws.taken_keeps (value_of k s) (value_of k s) (pool_of k s m) p (source_stands s m p ok) c ∙ source_reads s m p ok

    -- the same once the old value's use is dropped
    pub keeps_dropped : (old y : V) (q : ℕ) → Rests k y m → Rests k y (k.dropped old (k.taken (value_of k s) (pool_of k s m))) →
        k.reads y (k.dropped old (k.taken (value_of k s) (pool_of k s m))) q ≡ k.reads y m q
    keeps_dropped old y q h d =
        let w : M = k.taken (value_of k s) (pool_of k s m) in
        laws.dropped_keeps old y w q (rests_stands k laws y w (rests_taken y h)) (rests_stands k laws y (k.dropped old w) d) ∙ keeps_taken y q h

    pub reads_dropped : (old : V) → Rests k (value_of k s) (k.dropped old (k.taken (value_of k s) (pool_of k s m))) →
        k.reads (value_of k s) (k.dropped old (k.taken (value_of k s) (pool_of k s m))) p ≡ reading_of k s m p
    reads_dropped old d =
        let w : M = k.taken (value_of k s) (pool_of k s m) in
        let v : V = value_of k s in
        laws.dropped_keeps old v w p (rests_stands k laws v w rests_new) (rests_stands k laws v (k.dropped old w) d) ∙ reads_taken
