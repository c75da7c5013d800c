-- The limits of RULES.md, 1: by these names in definitions and contracts, and by those of src/lib.rt in code.
use Rattle.std.specs.Prelude.{ℕ}

-- the greatest value of a number
abbrev pub greatest : ℕ
greatest = 4294967295

-- the most rows that columns have
abbrev pub most_rows : ℕ
most_rows = 256

-- the most entries that a request has
abbrev pub most_entries : ℕ
most_entries = 256

-- the greatest depth of an entry
abbrev pub greatest_depth : ℕ
greatest_depth = 16
