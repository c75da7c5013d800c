-- Boxes that are disjoint, two by two (RULES.md, 3).
use Rattle.std.specs.Prelude.{ℕ, Bool, true, ◌&&◌, List, [], ◌∷◌}
use Rattle.boxes.specs.Boxes.{box_of, disjoint}
use Rattle.boxes.specs.declared.Box.{Box}

-- the boxes of three columns, as far as all three go
unfoldable pub boxes_of : List ℕ → List ℕ → List ℕ → List Box
boxes_of [] r q = []
boxes_of (x ∷ l) [] q = []
boxes_of (x ∷ l) (y ∷ r) [] = []
boxes_of (x ∷ l) (y ∷ r) (z ∷ q) = box_of x y z ∷ boxes_of l r q

-- b is disjoint from each of the boxes; every two of them are disjoint
unfoldable pub none_meets : Box → List Box → Bool
none_meets b [] = true
none_meets b (c ∷ s) = disjoint b c && none_meets b s

unfoldable pub all_disjoint : List Box → Bool
all_disjoint [] = true
all_disjoint (b ∷ s) = none_meets b s && all_disjoint s
