-- Table 2 by ancestry in the upper half, without lr-values (RULES.md, 20.3).
use Rattle.std.specs.Prelude.{Bool, true, false, ◌||◌, ℕ}
use Rattle.request.specs.Forest.{above}
use Rattle.reflected_tree.specs.Reflected.{Reflected, uppers}
use Rattle.reflected_tree.specs.Table2.{type_b, image}

-- x's node is y's or an ancestor of it
abbrev pub over : Reflected → ℕ → ℕ → Bool
over t x y = above (uppers t) (image t x) (image t y)

-- the types of U and V (true is b); U's node is over V's, V's node is over U's
abbrev pub kin : (t t' down up : Bool) → Bool
kin false false down up = down
kin false true down up = down || up
kin true false down up = false
kin true true down up = up

-- an upper group is a subgroup of those below it in the upper half, and of the mirror images of those that are comparable with it; a lower group
-- of those whose mirror images are above its own
unfoldable pub by_ancestry : Reflected → ℕ → ℕ → Bool
by_ancestry t x y = kin (type_b t x) (type_b t y) (over t x y) (over t y x)
