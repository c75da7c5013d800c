-- Reading a reflected tree (RULES.md, 20.1), from left to right; the first refusal met counts.
use Rattle.std.specs.Prelude.{ℕ, Bool, cond, not, ◌||◌, List, eqb, leb, ltb, length}
use Rattle.rules.specs.Answers.{Answer, answer, refused, then}
use Rattle.rules.specs.Buffers.{written, after}
use Rattle.rules.specs.Limits.{greatest_depth}
use Rattle.number.specs.Number.{number_at}
use Rattle.request.specs.declared.EntryRead.{EntryRead}
use Rattle.request.specs.Entries.{times, some_entry}
use Rattle.request.specs.Forest.{Forest, none, tree}
use Rattle.request.specs.Reading.{positive_at, TreeRead, TreesRead, tree_by, trees_by}
use Rattle.reflected_tree.specs.Reflected.{Reflected, empty, node, groups}
use Rattle.reflected_tree.specs.Written.{list_bytes}

-- how many nodes a tree may have
abbrev pub most_nodes : ℕ
most_nodes = 64

-- 32: the number of nodes is outside 1 to 64
abbrev pub node_count_bad : ℕ → Bool
node_count_bad n = eqb n 0 || ltb most_nodes n

-- 32: an inner node's lower id is 0, or a leaf's isn't
abbrev pub lower_bad : (lower children : ℕ) → Bool
lower_bad lower children = cond (eqb children 0) (not (eqb lower 0)) (eqb lower 0)

-- a node: upper id, lower id, number of children; and the position after it. 4: upper id is 0. The lower id stands in the place of an entry's quota
unfoldable pub node_at : List ℕ → ℕ → Answer EntryRead
node_at bytes at =
    then (positive_at bytes at) λ upper.
    then (number_at bytes upper.next) λ lower.
    then (number_at bytes lower.next) λ children.
    cond (lower_bad lower.value children.value) (refused 32)
    (answer (record { id = upper.value; quota = lower.value; children = children.value; next = children.next }))

-- 32: the nodes end before the tree is whole
unfoldable pub node_left : (n used : ℕ) → Answer (Unit {0})
node_left n used = cond (ltb used n) (answer tt) (refused 32)

-- a tree of n nodes, and its trees, with `room` for so many depths. 5: before a node, its depth is 17
abbrev pub node_tree_at : (n room : ℕ) → List ℕ → ℕ → ℕ → Answer TreeRead
node_tree_at n room bytes at used = tree_by (node_left n) (node_at bytes) room at used

unfoldable pub node_trees_at : (n room trees : ℕ) → List ℕ → ℕ → ℕ → Answer TreesRead
node_trees_at n room trees bytes at used = trees_by (node_tree_at n room bytes) trees at used

-- the nodes' trees as they were read
abbrev pub reflected_from : Forest → Reflected
reflected_from none = empty
reflected_from (tree e c r) = node e.id e.quota (reflected_from c) (reflected_from r)

-- 33: an id repeats, upper and lower ids together
unfoldable pub id_repeats : Reflected → Bool
id_repeats t = some_entry (λ e. leb 2 (times e.id (groups t))) (groups t)

-- number of nodes; the nodes in left pre-order. 32: a node comes after the tree is whole; 6: bytes remain at the end
unfoldable pub tree_of : List ℕ → Answer Reflected
tree_of bytes =
    then (number_at bytes 0) λ n.
    cond (node_count_bad n.value) (refused 32)
    (then (node_trees_at n.value greatest_depth 1 bytes n.next 0) λ t.
    cond (ltb t.used n.value) (refused 32) (cond (ltb t.next (length bytes)) (refused 6) (answer (reflected_from t.trees))))

-- 33 after the whole reading
unfoldable pub reflected_of : List ℕ → Answer Reflected
reflected_of bytes = then (tree_of bytes) λ t. cond (id_repeats t) (refused 33) (answer t)

-- then 30, and the byte count
unfoldable pub reflected_answer : (bytes buffer : List ℕ) → Answer ℕ
reflected_answer bytes buffer = then (reflected_of bytes) λ t. written buffer 0 (list_bytes t)

-- the buffer after: refused, it is as it was
unfoldable pub reflected_buffer : Answer Reflected → List ℕ → List ℕ
reflected_buffer (answer t) buffer = after buffer 0 (list_bytes t)
reflected_buffer (refused n) buffer = buffer
