-- The trees of a request, their sequences and their order (RULES.md, 6).
use Rattle.std.specs.Prelude.{Bool, false, ◌&&◌, ◌||◌, List, [], ◌∷◌, ◌++◌, ℕ, eqb}
use Rattle.request.specs.Entries.{Entry, has}

-- no tree; or a first tree, with its root's entry and the trees of its children, and the trees to its right
pub data Forest : Type 0 where
  none : Forest
  tree : (root : Entry) (children rest : Forest) → Forest

-- the direction of a request: upright, a parent is a subgroup of its descendants; inverted, a descendant is one of its ancestors
pub data Direction : Type 0 where
  upright inverted : Direction

-- pre-order, trees and children left to right: a parent before its children
abbrev pub pre_l : Forest → List Entry
pre_l none = []
pre_l (tree w c r) = w ∷ pre_l c ++ pre_l r

-- pre-order, both right to left
abbrev pub pre_r : Forest → List Entry
pre_r none = []
pre_r (tree w c r) = pre_r r ++ w ∷ pre_r c

-- post-order, left to right: a parent after its children
abbrev pub post_l : Forest → List Entry
post_l none = []
post_l (tree w c r) = post_l c ++ w ∷ post_l r

-- post-order, right to left
abbrev pub post_r : Forest → List Entry
post_r none = []
post_r (tree w c r) = post_r r ++ (post_r c ++ w ∷ [])

-- L, the left sequence, and R, the right sequence
abbrev pub left : Direction → Forest → List Entry
left upright t = pre_l t
left inverted t = post_l t

abbrev pub right : Direction → Forest → List Entry
right upright t = pre_r t
right inverted t = post_r t

-- x is y or an ancestor of y
abbrev pub above : Forest → ℕ → ℕ → Bool
above none x y = false
above (tree w c r) x y = (eqb x w.id && (eqb y w.id || has y (pre_l c))) || (above c x y || above r x y)

-- x ≤ y among the entries: upright, a parent is a subgroup of its descendants; inverted, a descendant is a subgroup of its ancestors
abbrev pub tree_order : Direction → Forest → ℕ → ℕ → Bool
tree_order upright t x y = above t x y
tree_order inverted t x y = above t y x
