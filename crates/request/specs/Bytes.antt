-- The bytes of a request (RULES.md, 5.1).
use Rattle.std.specs.Prelude.{List, [], ◌++◌, ℕ, suc}
use Rattle.number.specs.Number.{bytes_of}
use Rattle.request.specs.Forest.{Forest, none, tree, Direction, upright, inverted}
use Rattle.request.specs.Request.{Request}

-- how many trees there are
abbrev pub tree_count : Forest → ℕ
tree_count none = 0
tree_count (tree e c r) = suc (tree_count r)

-- direction, 0 upright or 1 inverted
abbrev pub direction_number : Direction → ℕ
direction_number upright = 0
direction_number inverted = 1

-- each tree in left pre-order, an entry being id, quota, number of children
unfoldable pub trees_bytes : Forest → List ℕ
trees_bytes none = []
trees_bytes (tree e c r) = bytes_of e.id ++ (bytes_of e.quota ++ (bytes_of (tree_count c) ++ (trees_bytes c ++ trees_bytes r)))

-- id of the group to explode; direction; number of trees; then each tree
unfoldable pub request_bytes : Request → List ℕ
request_bytes q = bytes_of q.exploded ++ (bytes_of (direction_number q.direction) ++ (bytes_of (tree_count q.trees) ++ trees_bytes q.trees))
