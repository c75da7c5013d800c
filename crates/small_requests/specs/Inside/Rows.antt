-- The list's bytes as the code puts them together: the bytes that are chosen so far, and what may follow them. Each number has one byte.
use mathlib.Core.List.{List, [], ◌∷◌, ◌++◌, flat_map}
use Rattle.std.specs.Prelude.{ℕ, suc, ◌+◌, ◌*◌}
use Rattle.small.specs.Shapes.{up_from, shapes}
use Rattle.small.specs.Small.{greatest_size}

-- how long the row is: what stands before the entries, and three bytes for each
abbrev pub row_length : ℕ
row_length = 4 + 3 * greatest_size

-- what stands before the entries: the length, the exploded id, the direction, the tree count
abbrev pub lead : (direction n trees : ℕ) → List ℕ
lead direction n trees = (3 + 3 * n) ∷ 1 ∷ direction ∷ trees ∷ []

-- the entries of some child counts, with ids from i upward and quota 1 each
unfoldable pub entries_bytes : ℕ → List ℕ → List ℕ
entries_bytes i [] = []
entries_bytes i (k ∷ s) = i ∷ 1 ∷ k ∷ entries_bytes (suc i) s

-- the requests that begin with `chosen`, and go on with `due` trees of `left` entries in all, with ids from i upward
unfoldable pub shapes_bytes : List ℕ → (i left due : ℕ) → List ℕ
shapes_bytes chosen i left due = flat_map (λ s. chosen ++ entries_bytes i s) (shapes left due)

-- the requests of one direction
unfoldable pub direction_bytes : (direction n : ℕ) → List ℕ
direction_bytes direction n = flat_map (λ trees. shapes_bytes (lead direction n trees) 1 n trees) (up_from 1 n)
