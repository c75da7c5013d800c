-- The list that is written for a reflected tree (RULES.md, 20.2): the fresh pair, then requests after their lengths.
use Rattle.std.specs.Prelude.{List, [], ◌∷◌, ◌++◌, map, ℕ}
use Rattle.number.specs.Number.{bytes_of}
use Rattle.request.specs.Entries.{entry}
use Rattle.request.specs.Forest.{Forest, none, tree, upright}
use Rattle.request.specs.Request.{Request}
use Rattle.request.specs.Bytes.{request_bytes}
use Rattle.request_log.specs.Log.{requests_bytes}
use Rattle.reflected_tree.specs.Reflected.{Reflected, empty, node, group_count, ends_as}

-- the first tree's upper id
abbrev pub first_id : Reflected → ℕ
first_id empty = 0
first_id (node u l c r) = u

-- trees as single entries: the root's upper id, and the number of groups that the tree ends as
abbrev pub roots : Reflected → Forest
roots empty = none
roots (node u l c r) = tree (entry u (ends_as c)) none (roots r)

-- an upright request
abbrev pub explode : ℕ → Forest → Request
explode u t = record { exploded = u; direction = upright; trees = t }

-- an inner node gives an upright chain of its upper id, its first child's upper id and its lower id, exploding the first. The first child's entry
-- ends as all the children's groups
abbrev pub chain : ℕ → ℕ → Reflected → Request
chain u l c = explode u (tree (entry u 1) (tree (entry (first_id c) (group_count c)) (tree (entry l 1) none none) none) none)

-- if it has several children, a second request explodes the first child's id into the children as single upright trees
abbrev pub spread : Reflected → Request
spread c = explode (first_id c) (roots c)

-- what a node with these children gives: a leaf nothing
abbrev pub own_requests : ℕ → ℕ → Reflected → List Request
own_requests u l empty = []
own_requests u l (node v m d empty) = chain u l (node v m d empty) ∷ []
own_requests u l (node v m d (node w k e s)) = chain u l (node v m d (node w k e s)) ∷ (spread (node v m d (node w k e s)) ∷ [])

-- inner nodes are taken in left pre-order
abbrev pub requests_of : Reflected → List Request
requests_of empty = []
requests_of (node u l c r) = own_requests u l c ++ (requests_of c ++ requests_of r)

-- the fresh pair, the root's upper id and the number of groups; then the requests, each after its length
unfoldable pub list_bytes : Reflected → List ℕ
list_bytes t = bytes_of (first_id t) ++ (bytes_of (group_count t) ++ requests_bytes (map request_bytes (requests_of t)))
