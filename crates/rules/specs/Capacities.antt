-- What the code can hold, apart from the limits of RULES.md, 1: how long its work arrays are, and how far 32 bits reach.
-- A tighter limit moves none of these.
use Rattle.std.specs.Prelude.{ℕ}
use Rattle.rules.specs.Limits.{greatest, most_rows, most_entries}

-- the length of a work array with a place for each row
abbrev pub row_capacity : ℕ
row_capacity = most_rows

-- the length of a work array with a place for each entry
abbrev pub entry_capacity : ℕ
entry_capacity = most_entries

-- the greatest 32-bit number
abbrev pub greatest32 : ℕ
greatest32 = greatest
