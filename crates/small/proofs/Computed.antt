-- The list, computed for its sizes.
use mathlib.Core.Path.{◌≡◌, refl}
use mathlib.Core.List.{[], ◌∷◌, map, flat_map}
use lib.ListN.{length}
use Rattle.small.specs.Shapes.{shapes}
use Rattle.small.specs.Small.{small_of, small, listed}

-- how many there are
pub counts : map (λ n. length (listed n)) (0 ∷ 1 ∷ 2 ∷ 3 ∷ 4 ∷ 5 ∷ 6 ∷ 7 ∷ []) ≡ 0 ∷ 2 ∷ 4 ∷ 10 ∷ 28 ∷ 84 ∷ 264 ∷ 0 ∷ []
unfolding listed small small_of shapes flat_map
counts = refl
