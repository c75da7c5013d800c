-- The numbers of a forest's entries (RULES.md, 6), in the request's order, as a walk over the trees finds them: b is where the trees' part begins.
use Rattle.std.specs.Prelude.{List, [], ◌∷◌, ◌++◌, ℕ, suc, ◌+◌}
use Rattle.request.specs.Entries.{quota}
use Rattle.request.specs.Forest.{Forest, none, tree, Direction, upright, inverted}

-- all the quotas of the trees; how many entries they have
abbrev pub whole : Forest → ℕ
whole none = 0
whole (tree w c r) = quota w + (whole c + whole r)

abbrev pub size : Forest → ℕ
size none = 0
size (tree w c r) = suc (size c + size r)

-- upright, a parent stands at the low corner of its own part; its children and then the trees to its right take higher l
abbrev pub up_l : ℕ → Forest → List ℕ
up_l b none = []
up_l b (tree w c r) = b ∷ up_l (b + quota w) c ++ up_l (b + quota w + whole c) r

-- the trees to its right take lower r
abbrev pub up_r : ℕ → Forest → List ℕ
up_r b none = []
up_r b (tree w c r) = (b + whole r) ∷ up_r (b + whole r + quota w) c ++ up_r b r

-- inverted, a parent stands at the high corner of its own part
abbrev pub down_l : ℕ → Forest → List ℕ
down_l b none = []
down_l b (tree w c r) = (b + whole c) ∷ down_l b c ++ down_l (b + whole c + quota w) r

abbrev pub down_r : ℕ → Forest → List ℕ
down_r b none = []
down_r b (tree w c r) = (b + whole r + whole c) ∷ down_r (b + whole r) c ++ down_r b r

abbrev pub lefts : Direction → ℕ → Forest → List ℕ
lefts upright b t = up_l b t
lefts inverted b t = down_l b t

abbrev pub rights : Direction → ℕ → Forest → List ℕ
rights upright b t = up_r b t
rights inverted b t = down_r b t
