-- The limits, as contracts name them.
use Rattle.std.specs.Prelude.{ℕ}

-- the highest level: inside 254 groups
abbrev pub top_level : ℕ
top_level = 255

-- the most places that a store reaches
abbrev pub top_reach : ℕ
top_reach = 131072

-- the most entries of a save stack that are used
abbrev pub top_entries : ℕ
top_entries = 65535

-- the most uses that a shared list can have
abbrev pub top_uses : ℕ
top_uses = 4294967295

-- the most lost lines that are counted
abbrev pub top_lost : ℕ
top_lost = 4294967295

-- the largest size of a number
abbrev pub top_number : ℕ
top_number = 2147483647

-- the largest size of a dimension, in scaled points
abbrev pub top_dimension : ℕ
top_dimension = 1073741823
