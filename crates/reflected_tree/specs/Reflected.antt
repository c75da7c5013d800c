-- A reflected tree of the old product (RULES.md, 20): a rooted tree whose nodes have an upper group each; each inner node has a lower group too, its
-- mirror image. A leaf's group is on the line.
use Rattle.std.specs.Prelude.{List, [], ◌∷◌, ◌++◌, ℕ, suc, ◌+◌}
use Rattle.request.specs.Entries.{Entry, entry}
use Rattle.request.specs.Forest.{Forest, none, tree}

-- no tree; or a first tree, with its root's upper and lower id and the trees of its children, and the trees to its right. A leaf's lower id
-- counts for nothing
pub data Reflected : Type 0 where
  empty : Reflected
  node : (upper lower : ℕ) (children rest : Reflected) → Reflected

-- how many lower groups a node with these children has, none or one; and its lower group
abbrev pub lower_count : Reflected → ℕ
lower_count empty = 0
lower_count (node u l c r) = 1

abbrev pub lower_of : ℕ → Reflected → List Entry
lower_of l empty = []
lower_of l (node u m c r) = entry l 1 ∷ []

-- how many groups some trees have, and how many a node with these children ends as: its upper group, its subtrees' groups, its lower group
abbrev pub group_count : Reflected → ℕ
group_count empty = 0
group_count (node u l c r) = suc (group_count c + lower_count c) + group_count r

abbrev pub ends_as : Reflected → ℕ
ends_as c = suc (group_count c + lower_count c)

-- how many nodes some trees have
abbrev pub node_count : Reflected → ℕ
node_count empty = 0
node_count (node u l c r) = suc (node_count c + node_count r)

-- the groups, each with quota 1: a node's upper group, then its subtrees left to right, then its lower group
abbrev pub groups : Reflected → List Entry
groups empty = []
groups (node u l c r) = entry u 1 ∷ (groups c ++ (lower_of l c ++ groups r))

-- the same with subtrees right to left
abbrev pub groups_r : Reflected → List Entry
groups_r empty = []
groups_r (node u l c r) = groups_r r ++ (entry u 1 ∷ (groups_r c ++ lower_of l c))

-- the upper half, groups on the line among it
abbrev pub uppers : Reflected → Forest
uppers empty = none
uppers (node u l c r) = tree (entry u 1) (uppers c) (uppers r)
