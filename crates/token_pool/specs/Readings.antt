-- Reading a list token by token at a cursor.
use Rattle.std.specs.Prelude.{◌≡◌, ℕ, List, [], ◌∷◌, Some, None, Option}
use Rattle.token_pool.specs.declared.cursor.Cursor.{Cursor}
use Rattle.token_pool.specs.declared.cursor.Token.{Token}

-- what is read at a cursor, where rest has the tokens that are still to be read at each: nothing at the end, else the first of them
abbrev pub Reads : (Cursor → List ℕ) → Cursor → Option Token → Type 0
Reads rest c None = rest c ≡ []
Reads rest c (Some t) = rest c ≡ t.code ∷ rest t.rest
