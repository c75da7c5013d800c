-- Ids that differ, two by two (RULES.md, 3).
use Rattle.std.specs.Prelude.{ℕ, Bool, true, not, ◌&&◌, List, [], ◌∷◌, eqb}

-- x is none of the ids; no two of them are equal
unfoldable pub none_is : ℕ → List ℕ → Bool
none_is x [] = true
none_is x (y ∷ s) = not (eqb x y) && none_is x s

unfoldable pub all_differ : List ℕ → Bool
all_differ [] = true
all_differ (x ∷ s) = none_is x s && all_differ s
