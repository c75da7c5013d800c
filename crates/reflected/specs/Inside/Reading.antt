-- The walk that reads trees, and what it leaves in the places of the nodes.
use Rattle.std.specs.Prelude.{◌≡◌, ℕ, zero, suc, ◌+◌, ◌≤◌, List}
use Rattle.std.proofs.lemmas.List.Edits.{sets}
use Rattle.rules.specs.Answers.{Answer, answer, refused, then}
use Rattle.request.specs.Reading.{TreesRead}
use Rattle.reflected_tree.specs.Reflected.{Reflected, group_count, node_count}
use Rattle.reflected_tree.specs.Reading.{most_nodes, reflected_from}
use Rattle.reflected.specs.declared.nodes.Node.{Node}
use Rattle.reflected.specs.declared.reading.End.{End}
use Rattle.reflected.specs.Inside.Nodes.{child_count, stored, Holds}

-- how many groups a node with so many children is itself: a leaf one, an inner node two
abbrev pub own_groups : ℕ → ℕ
own_groups zero = 1
own_groups (suc n) = 2

-- where a walk came to: the next position, the next place, and how many groups the trees end as
abbrev pub walk_end : Answer TreesRead → Answer End
walk_end found = then found λ t. answer (record { next = t.next; used = t.used; groups = group_count (reflected_from t.trees) })

-- so many trees were read into the places from `used` on, up to `count`; the other places are as they were
pub record Filled (trees used count : ℕ) (old new : List Node) (t : TreesRead) : Type 0 where
  pub places : new ≡ sets old used (stored used (reflected_from t.trees))
  pub used_is : t.used ≡ used + node_count (reflected_from t.trees)
  pub trees_are : child_count (reflected_from t.trees) ≡ trees
  pub most : t.used ≤ count

abbrev pub Walked : (trees used count : ℕ) (old new : List Node) → Answer TreesRead → Type 0
Walked trees used count old new (answer t) = Filled trees used count old new t
Walked trees used count old new (refused n) = Unit {0}

-- a tree that was read: it is one tree of 1 to 64 nodes, which stand in the first places
pub record TreeIn (nodes : List Node) (t : Reflected) : Type 0 where
  pub holds : Holds nodes t
  pub single : child_count t ≡ 1
  pub some : 1 ≤ node_count t
  pub most : node_count t ≤ most_nodes
