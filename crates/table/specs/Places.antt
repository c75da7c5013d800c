-- Where a number stands first in a column.
use Rattle.std.specs.Prelude.{ℕ, suc, List, [], ◌∷◌, eqb, take}
use Rattle.rules.specs.Pick.{pick}

-- the index of x in a list whose first index is i, or `none` where x isn't there
unfoldable pub index_from : (i none x : ℕ) → List ℕ → ℕ
index_from i none x [] = none
index_from i none x (y ∷ s) = pick (eqb y x) i (index_from (suc i) none x s)

-- the index of x among the first n of a column, or n where it isn't there
unfoldable pub place_of : List ℕ → (n x : ℕ) → ℕ
place_of column n x = index_from 0 n x (take n column)
