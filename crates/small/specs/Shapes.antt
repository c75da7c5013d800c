-- Shapes of forests: how many children each entry has, in left pre-order.
use mathlib.Core.List.{List, [], ◌∷◌, ◌++◌, map, flat_map}
use Rattle.std.specs.Prelude.{ℕ, zero, suc, ◌+◌}
use Rattle.request.specs.Entries.{Entry, entry}
use Rattle.request.specs.Forest.{Forest, none, tree}
use Rattle.request.specs.Bytes.{tree_count}

-- the child counts of a forest's entries, in left pre-order
abbrev pub child_counts : Forest → List ℕ
child_counts none = []
child_counts (tree e c r) = tree_count c ∷ child_counts c ++ child_counts r

-- n entries with ids from i upward and quota 1 each
abbrev pub numbered : ℕ → ℕ → List Entry
numbered i zero = []
numbered i (suc n) = entry i 1 ∷ numbered (suc i) n

-- the numbers from k upward, m of them
abbrev pub up_from : ℕ → ℕ → List ℕ
up_from k zero = []
up_from k (suc m) = k ∷ up_from (suc k) m

-- the child counts of so many entries that are so many trees, the smaller counts first: the first entry has k children, and what is left are the
-- other trees and those k
unfoldable pub shapes : (entries trees : ℕ) → List (List ℕ)
shapes zero zero = [] ∷ []
shapes zero (suc trees) = []
shapes (suc entries) zero = []
shapes (suc entries) (suc trees) = flat_map (λ k. map (λ s. k ∷ s) (shapes entries (trees + k))) (up_from 0 (suc entries))

-- the first k trees, and the others
abbrev pub first_trees : ℕ → Forest → Forest
first_trees zero t = none
first_trees (suc k) none = none
first_trees (suc k) (tree e c r) = tree e c (first_trees k r)

abbrev pub other_trees : ℕ → Forest → Forest
other_trees zero t = t
other_trees (suc k) none = none
other_trees (suc k) (tree e c r) = other_trees k r

-- an entry with quota 1 over the first k of some trees, and the others to its right
abbrev pub over : ℕ → ℕ → Forest → Forest
over i k t = tree (entry i 1) (first_trees k t) (other_trees k t)

-- the trees of some child counts, with ids from i upward in left pre-order and quota 1 each
abbrev pub forest_of : ℕ → List ℕ → Forest
forest_of i [] = none
forest_of i (k ∷ s) = over i k (forest_of (suc i) s)
