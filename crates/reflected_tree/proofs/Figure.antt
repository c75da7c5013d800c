-- The paper's Figure 1(c), computed: Table 1, the written list, and the orders of one group. Then Figure 1(d), and the smallest trees.
use mathlib.Core.Path.{◌≡◌, refl}
use mathlib.Core.Bool.{Bool, true, false}
use mathlib.Core.List.{List, [], ◌∷◌, map, flat_map}
use Prim.Native.Nat.{ℕ}
use Rattle.number.specs.Number.{bit_groups_of, bytes_of}
use Rattle.request.specs.Entries.{entry, some_entry}
use Rattle.request.specs.Forest.{Forest, none, tree}
use Rattle.request.specs.Bytes.{trees_bytes, request_bytes}
use Rattle.request_log.specs.Log.{requests_bytes}
use Rattle.reflected_tree.specs.Reflected.{Reflected, empty, node}
use Rattle.reflected_tree.specs.Written.{explode, requests_of, list_bytes}
use Rattle.reflected_tree.specs.Table2.{type_b, l_value, r_value, table2}
use Rattle.reflected_tree.specs.Ancestry.{by_ancestry}
use Rattle.reflected_tree.specs.Reading.{id_repeats}

-- the types' letters; a chain of three entries, and single entries
abbrev a : Bool
a = false

abbrev b : Bool
b = true

abbrev chained : (u v n l : ℕ) → Forest
chained u v n l = tree (entry u 1) (tree (entry v n) (tree (entry l 1) none none) none) none

abbrev beside : (u n : ℕ) → Forest → Forest
beside u n f = tree (entry u n) none f

-- the groups' ids, in Table 1's order: D 1; P1 2, T1 3, T2 4, T3 5; P2 6, T4 7, T5 8; p1 9, p2 10, d 11
abbrev figure_c : Reflected
figure_c = node 1 11 (node 2 9 (node 3 0 empty (node 4 0 empty (node 5 0 empty empty))) (node 6 10 (node 7 0 empty (node 8 0 empty empty)) empty)) empty

abbrev ids : List ℕ
ids = 1 ∷ 2 ∷ 3 ∷ 4 ∷ 5 ∷ 6 ∷ 7 ∷ 8 ∷ 9 ∷ 10 ∷ 11 ∷ []

table_1_type : map (type_b figure_c) ids ≡ a ∷ a ∷ a ∷ a ∷ a ∷ a ∷ a ∷ a ∷ b ∷ b ∷ b ∷ []
table_1_type = refl

table_1_l : map (l_value figure_c) ids ≡ 1 ∷ 2 ∷ 3 ∷ 4 ∷ 5 ∷ 6 ∷ 7 ∷ 8 ∷ 2 ∷ 6 ∷ 1 ∷ []
table_1_l = refl

table_1_r : map (r_value figure_c) ids ≡ 1 ∷ 5 ∷ 8 ∷ 7 ∷ 6 ∷ 2 ∷ 4 ∷ 3 ∷ 5 ∷ 2 ∷ 1 ∷ []
table_1_r = refl

-- the requests: D's two, P1's two, P2's two
list_c : requests_of figure_c
    ≡ explode 1 (chained 1 2 9 11)
    ∷ explode 2 (beside 2 5 (beside 6 4 none))
    ∷ explode 2 (chained 2 3 3 9)
    ∷ explode 3 (beside 3 1 (beside 4 1 (beside 5 1 none)))
    ∷ explode 6 (chained 6 7 2 10)
    ∷ explode 7 (beside 7 1 (beside 8 1 none))
    ∷ []
list_c = refl

bytes_c : list_bytes figure_c
    ≡ 1 ∷ 11
    ∷ 12 ∷ 1 ∷ 0 ∷ 1 ∷ 1 ∷ 1 ∷ 1 ∷ 2 ∷ 9 ∷ 1 ∷ 11 ∷ 1 ∷ 0
    ∷ 9 ∷ 2 ∷ 0 ∷ 2 ∷ 2 ∷ 5 ∷ 0 ∷ 6 ∷ 4 ∷ 0
    ∷ 12 ∷ 2 ∷ 0 ∷ 1 ∷ 2 ∷ 1 ∷ 1 ∷ 3 ∷ 3 ∷ 1 ∷ 9 ∷ 1 ∷ 0
    ∷ 12 ∷ 3 ∷ 0 ∷ 3 ∷ 3 ∷ 1 ∷ 0 ∷ 4 ∷ 1 ∷ 0 ∷ 5 ∷ 1 ∷ 0
    ∷ 12 ∷ 6 ∷ 0 ∷ 1 ∷ 6 ∷ 1 ∷ 1 ∷ 7 ∷ 2 ∷ 1 ∷ 10 ∷ 1 ∷ 0
    ∷ 9 ∷ 7 ∷ 0 ∷ 2 ∷ 7 ∷ 1 ∷ 0 ∷ 8 ∷ 1 ∷ 0 ∷ []
unfolding list_bytes requests_bytes request_bytes trees_bytes bytes_of bit_groups_of flat_map
bytes_c = refl

-- the members of p1 are members of p1 and d; those of D, P1, T1, T2, T3 and p1 are members of p1
from_p1 : map (table2 figure_c 9) ids ≡ false ∷ false ∷ false ∷ false ∷ false ∷ false ∷ false ∷ false ∷ true ∷ false ∷ true ∷ []
unfolding table2
from_p1 = refl

to_p1 : map (λ x. table2 figure_c x 9) ids ≡ true ∷ true ∷ true ∷ true ∷ true ∷ false ∷ false ∷ false ∷ true ∷ false ∷ false ∷ []
unfolding table2
to_p1 = refl

to_p1_by_ancestry : map (λ x. by_ancestry figure_c x 9) ids ≡ true ∷ true ∷ true ∷ true ∷ true ∷ false ∷ false ∷ false ∷ true ∷ false ∷ false ∷ []
unfolding by_ancestry
to_p1_by_ancestry = refl

-- Figure 1(d): P2 gets a further task T6, 12. The lr-values of D, P2 and their images stay
abbrev figure_d : Reflected
figure_d =
    node 1 11 (node 2 9 (node 3 0 empty (node 4 0 empty (node 5 0 empty empty))) (node 6 10 (node 7 0 empty (node 8 0 empty (node 12 0 empty empty))) empty)) empty

values_d_l : map (l_value figure_d) ids ≡ 1 ∷ 2 ∷ 3 ∷ 4 ∷ 5 ∷ 6 ∷ 7 ∷ 8 ∷ 2 ∷ 6 ∷ 1 ∷ []
values_d_l = refl

values_d_r : map (r_value figure_d) ids ≡ 1 ∷ 6 ∷ 9 ∷ 8 ∷ 7 ∷ 2 ∷ 5 ∷ 4 ∷ 6 ∷ 2 ∷ 1 ∷ []
values_d_r = refl

list_d : requests_of figure_d
    ≡ explode 1 (chained 1 2 10 11)
    ∷ explode 2 (beside 2 5 (beside 6 5 none))
    ∷ explode 2 (chained 2 3 3 9)
    ∷ explode 3 (beside 3 1 (beside 4 1 (beside 5 1 none)))
    ∷ explode 6 (chained 6 7 3 10)
    ∷ explode 7 (beside 7 1 (beside 8 1 (beside 12 1 none)))
    ∷ []
list_d = refl

-- a leaf alone; a root with one child; the bytes of both
list_leaf : requests_of (node 1 0 empty empty) ≡ []
list_leaf = refl

list_child : requests_of (node 1 3 (node 2 0 empty empty) empty) ≡ explode 1 (chained 1 2 1 3) ∷ []
list_child = refl

bytes_leaf : list_bytes (node 5 0 empty empty) ≡ 5 ∷ 1 ∷ []
unfolding list_bytes requests_bytes bytes_of bit_groups_of flat_map
bytes_leaf = refl

bytes_child : list_bytes (node 1 3 (node 2 0 empty empty) empty) ≡ 1 ∷ 3 ∷ 12 ∷ 1 ∷ 0 ∷ 1 ∷ 1 ∷ 1 ∷ 1 ∷ 2 ∷ 1 ∷ 1 ∷ 3 ∷ 1 ∷ 0 ∷ []
unfolding list_bytes requests_bytes request_bytes trees_bytes bytes_of bit_groups_of flat_map
bytes_child = refl

-- 33: the leaves' 0 is no id; a lower id may be no upper one
repeats_c : id_repeats figure_c ≡ false
unfolding id_repeats some_entry
repeats_c = refl

repeats_mirror : id_repeats (node 1 2 (node 2 0 empty empty) empty) ≡ true
unfolding id_repeats some_entry
repeats_mirror = refl
