-- The numbers of a script's line, cut to what there is room for.
use Rattle.std.specs.Prelude.{ℕ, cond, leb}

-- a number in 32 bits: the greatest there is where it has more
unfoldable pub narrowed : ℕ → ℕ
narrowed n = cond (leb n 4294967295) n 4294967295

-- so many bytes of a buffer of 65536, or all
unfoldable pub room_of : ℕ → ℕ
room_of n = cond (leb n 65536) n 65536
