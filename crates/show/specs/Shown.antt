-- What the printing of buffers and columns looks at.
use Rattle.std.specs.Prelude.{ℕ, zero, suc, ◌+◌, Bool, false, cond, ◌&&◌, ◌||◌, List, ◌==◌, slice_index, Option, None, Some}

-- where the EE before a position begin
unfoldable pub used_of : ℕ → List ℕ → ℕ
used_of zero s = 0
used_of (suc n) s = cond (slice_index s n == 238) (used_of n s) (suc n)

-- a number stands between two that are equal to it, or one less and one more
unfoldable pub between_of : Option ℕ → ℕ → Option ℕ → Bool
between_of None here after = false
between_of (Some before) here None = false
between_of (Some before) here (Some after) = (before == here && here == after) || (before + 1 == here && here + 1 == after) || (after + 1 == here && here + 1 == before)
