-- The list that is written of the nodes that are stored, by their places.
use Rattle.std.specs.Prelude.{◌≡◌, ◌≤◌, ◌<◌, ℕ, zero, suc, ◌+◌, ◌-◌, cond, eqb, ltb, List, [], ◌∷◌, ◌++◌, map, length, get_or}
use mathlib.Core.List.{flat_map}
use Rattle.number.specs.Number.{bytes_of}
use Rattle.request.specs.Entries.{entry}
use Rattle.request.specs.Forest.{Forest, none, tree}
use Rattle.request.specs.Request.{Request}
use Rattle.request.specs.Bytes.{request_bytes}
use Rattle.request_log.specs.Log.{requests_bytes}
use Rattle.reflected_tree.specs.Reflected.{Reflected, node_count}
use Rattle.reflected_tree.specs.Written.{explode}
use Rattle.reflected_tree.specs.Reading.{most_nodes}
use Rattle.reflected.specs.declared.nodes.Node.{Node}
use Rattle.reflected.specs.Inside.Nodes.{child_count, Holds}

-- the node at a place
abbrev pub node_in : List Node → ℕ → Node
node_in nodes i = get_or nodes i (record { upper = 0; lower = 0; children = 0; groups = 0; end = 0 })

-- a node's chain, and its first child's upper id. The children's groups are the node's but for its own two
abbrev pub chain_of : Node → ℕ → Request
chain_of n first = explode n.upper (tree (entry n.upper 1) (tree (entry first (n.groups - 2)) (tree (entry n.lower 1) none none) none) none)

-- as many nodes side by side, from a first place on, as single trees
abbrev pub roots_at : List Node → ℕ → ℕ → Forest
roots_at nodes i zero = none
roots_at nodes i (suc count) = tree (entry (node_in nodes i).upper (node_in nodes i).groups) none (roots_at nodes (node_in nodes i).end count)

-- a spread of as many children
abbrev pub spread_at : List Node → ℕ → ℕ → Request
spread_at nodes i count = explode (node_in nodes i).upper (roots_at nodes i count)

-- what a node gives: a leaf nothing
unfoldable pub own_at : List Node → ℕ → List Request
own_at nodes i =
    cond (eqb (node_in nodes i).children 0) []
    (chain_of (node_in nodes i) (node_in nodes (i + 1)).upper
    ∷ cond (ltb 1 (node_in nodes i).children) (spread_at nodes (i + 1) (node_in nodes i).children ∷ []) [])

-- numbers, one after another
unfoldable pub numbers_bytes : List ℕ → List ℕ
numbers_bytes numbers = flat_map bytes_of numbers

-- some bytes after their length
unfoldable pub sized : List ℕ → List ℕ
sized bytes = bytes_of (length bytes) ++ bytes

-- requests, each after its length
unfoldable pub sized_all : List Request → List ℕ
sized_all requests = requests_bytes (map request_bytes requests)

-- as many nodes side by side have places
abbrev pub Walks : List Node → ℕ → ℕ → Type 0
Walks nodes i zero = Unit {0}
Walks nodes i (suc count) = (i < length nodes) × Walks nodes (node_in nodes i).end count

-- a node with children ends as two groups or more, and its children have places
pub record Sound (nodes : List Node) (i : ℕ) : Type 0 where
  pub place : i < length nodes
  pub groups : 1 ≤ (node_in nodes i).children → 2 ≤ (node_in nodes i).groups
  pub few : (node_in nodes i).children ≤ most_nodes
  pub children : Walks nodes (i + 1) (node_in nodes i).children

-- the nodes are those of one tree
pub record Stored (nodes : List Node) (count : ℕ) : Type 0 where
  pub tree : Reflected
  pub one : child_count tree ≡ 1
  pub held : Holds nodes tree
  pub size : node_count tree ≡ count
  pub most : count ≤ most_nodes
