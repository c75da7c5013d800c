-- Reading a request's bytes (RULES.md, 5.2), from left to right; the first refusal met counts.
use Rattle.std.specs.Prelude.{ℕ, zero, suc, ◌+◌, cond, List, eqb, ltb, length}
use Rattle.rules.specs.Answers.{Answer, answer, refused, then}
use Rattle.rules.specs.Limits.{most_entries, greatest_depth}
use Rattle.number.specs.declared.Number.{Number}
use Rattle.number.specs.Number.{number_at}
use Rattle.request.specs.declared.EntryRead.{EntryRead}
use Rattle.request.specs.Entries.{Entry, entry}
use Rattle.request.specs.Forest.{Forest, none, tree, Direction, upright, inverted}
use Rattle.request.specs.Request.{Request}

-- a number that may not be 0. 4: exploded id, tree count, entry id or quota is 0
abbrev pub positive_of : Answer Number → Answer Number
positive_of drawn = then drawn λ n. cond (eqb n.value 0) (refused 4) (answer n)

unfoldable pub positive_at : List ℕ → ℕ → Answer Number
positive_at bytes at = positive_of (number_at bytes at)

-- an entry: id, quota, number of children; and the position after it
unfoldable pub entry_at : List ℕ → ℕ → Answer EntryRead
entry_at bytes at =
    then (positive_at bytes at) λ id.
    then (positive_at bytes id.next) λ quota.
    then (number_at bytes quota.next) λ children.
    answer (record { id = id.value; quota = quota.value; children = children.value; next = children.next })

-- a tree that was read, the position after it, and how many entries have been read by then
pub record TreeRead : Type 0 where
  pub root : Entry
  pub children : Forest
  pub next : ℕ
  pub used : ℕ

-- the same of trees
pub record TreesRead : Type 0 where
  pub trees : Forest
  pub next : ℕ
  pub used : ℕ

-- `n` trees from a position on, each read by `one`, where `used` entries stand before
unfoldable pub trees_by : (ℕ → ℕ → Answer TreeRead) → ℕ → ℕ → ℕ → Answer TreesRead
trees_by one zero at used = answer (record { trees = none; next = at; used = used })
trees_by one (suc n) at used =
    then (one at used) λ t.
    then (trees_by one n t.next t.used) λ r.
    answer (record { trees = tree t.root t.children r.trees; next = r.next; used = r.used })

-- a tree in left pre-order, with `room` for so many depths: `before` is the check before an entry where so many stand before it, and `read` reads
-- an entry. 5: before an entry, its depth is 17
unfoldable pub tree_by : (ℕ → Answer (Unit {0})) → (ℕ → Answer EntryRead) → ℕ → ℕ → ℕ → Answer TreeRead
tree_by before read zero at used = then (before used) λ _. refused 5
tree_by before read (suc room) at used =
    then (before used) λ _.
    then (read at) λ e.
    then (trees_by (tree_by before read room) e.children e.next (used + 1)) λ c.
    answer (record { root = entry e.id e.quota; children = c.trees; next = c.next; used = c.used })

-- 7: before an entry, it is the 257th
unfoldable pub not_full : ℕ → Answer (Unit {0})
not_full used = cond (ltb used most_entries) (answer tt) (refused 7)

-- a tree of a request, and its trees; a root has depth 1
abbrev pub tree_at : ℕ → List ℕ → ℕ → ℕ → Answer TreeRead
tree_at room bytes at used = tree_by not_full (entry_at bytes) room at used

unfoldable pub trees_at : ℕ → ℕ → List ℕ → ℕ → ℕ → Answer TreesRead
trees_at room n bytes at used = trees_by (tree_at room bytes) n at used

-- direction, 0 upright or 1 inverted
unfoldable pub direction_of : ℕ → Direction
direction_of zero = upright
direction_of (suc n) = inverted

-- id of the group to explode; direction; number of trees; the trees. 3: direction above 1. 6: bytes remain at the end
unfoldable pub request_of : List ℕ → Answer Request
request_of bytes =
    then (positive_at bytes 0) λ exploded.
    then (number_at bytes exploded.next) λ direction.
    cond (ltb 1 direction.value) (refused 3)
    (then (positive_at bytes direction.next) λ n.
    then (trees_at greatest_depth n.value bytes n.next 0) λ t.
    cond (ltb t.next (length bytes)) (refused 6)
    (answer (record { exploded = exploded.value; direction = direction_of direction.value; trees = t.trees })))
