-- A request (RULES.md, 5): the group to explode, the direction, and the trees.
use Rattle.std.specs.Prelude.{List, ℕ}
use Rattle.request.specs.Entries.{Entry}
use Rattle.request.specs.Forest.{Forest, Direction, pre_l, left, right}

pub record Request : Type 0 where
  pub exploded : ℕ
  pub direction : Direction
  pub trees : Forest

-- the entries in the request's order: left pre-order
abbrev pub entries : Request → List Entry
entries q = pre_l q.trees

-- the request's own sequences
abbrev pub left_of : Request → List Entry
left_of q = left q.direction q.trees

abbrev pub right_of : Request → List Entry
right_of q = right q.direction q.trees
