-- The nodes of a tree as they are stored: in left pre-order, one after another.
use Rattle.std.specs.Prelude.{◌≡◌, ℕ, suc, ◌+◌, List, [], ◌∷◌, ◌++◌, take}
use Rattle.reflected_tree.specs.Reflected.{Reflected, empty, node, ends_as, node_count}
use Rattle.reflected.specs.declared.nodes.Node.{Node}

-- how many trees there are
abbrev pub child_count : Reflected → ℕ
child_count empty = 0
child_count (node u l c r) = suc (child_count r)

-- some trees, the first node of which takes place i. A node has its ids, the number of its children, how many groups its tree ends as, and the
-- place past its last descendant
abbrev pub stored : ℕ → Reflected → List Node
stored i empty = []
stored i (node u l c r) =
    record { upper = u; lower = l; children = child_count c; groups = ends_as c; end = i + 1 + node_count c }
    ∷ (stored (i + 1) c ++ stored (i + 1 + node_count c) r)

-- the first places hold a tree
abbrev pub Holds : List Node → Reflected → Type 0
Holds nodes t = take (node_count t) nodes ≡ stored 0 t
