-- The two coordinates, and ranges of each (RULES.md, 3).
use Rattle.std.specs.Prelude.{ℕ, ◌+◌, ◌%◌, Bool, cond, ◌&&◌, List, nat_le, nat_lt, slice_set}
use Rattle.rules.specs.Limits.{greatest}
use Rattle.coordinates.specs.declared.axis.Coordinate.{Coordinate}

-- an l-value, and an r-value
abbrev pub LValue : Type 0
LValue = Coordinate 0

abbrev pub RValue : Type 0
RValue = Coordinate 1

-- the coordinates of a number
abbrev pub value_of : {of_r : ℕ} → ℕ → Coordinate of_r
value_of n = record { 0 = n }

abbrev pub l_value : ℕ → LValue
l_value n = value_of n

abbrev pub r_value : ℕ → RValue
r_value n = value_of n

-- one coordinate is at most another of its kind
abbrev pub at_most : ℕ → ℕ → Bool
at_most a b = nat_le a b

-- a column with a coordinate written to place i; it stays as it is where the coordinate passes the greatest number. Past its end there is no place
unfoldable pub column_with : List ℕ → ℕ → ℕ → List ℕ
column_with column i n = cond (nat_le n greatest) (slice_set column i n) column

-- a coordinate past 64 bits
abbrev pub past : ℕ → Bool
past n = nat_lt 18446744073709551615 n

-- n numbers on from a coordinate: a + n, less 2^64 where that is past 64 bits
abbrev pub onward : ℕ → ℕ → ℕ
onward a n = (a + n) % 18446744073709551616

-- the p numbers from b on are among the q numbers from a on
unfoldable pub within : ℕ → ℕ → ℕ → ℕ → Bool
within a q b p = nat_le a b && nat_le (b + p) (a + q)

-- the q numbers from a on and the p numbers from b on: the range that begins first ends before the other begins
unfoldable pub apart : ℕ → ℕ → ℕ → ℕ → Bool
apart a q b p = cond (nat_le a b) (nat_le (a + q) b) (nat_le (b + p) a)
