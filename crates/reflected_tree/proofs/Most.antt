-- How long a list may be: 29 bytes for each node but the root, and 6 for the pair.
use mathlib.Core.Path.{◌≡◌, refl, ap, ◌∙◌}
use mathlib.Core.List.{List, [], ◌∷◌, ◌++◌, map, map-append, flat_map}
use Prim.Native.Nat.{ℕ, ◌+◌, ◌*◌, ◌≤◌, ◌<◌}
use native.Mathlib.Omega.{arith}
use lib.ListN.{length, length-append}
use Rattle.rules.specs.Answers.{answer}
use Rattle.rules.proofs.Pieces.{flat_append, length_four}
use Rattle.number.specs.Number.{bytes_of}
use Rattle.number.proofs.Groups.{one_group}
use Rattle.number.proofs.Laws.{number_count}
use Rattle.request.specs.Entries.{Entry, entry}
use Rattle.request.specs.Forest.{Forest, none, tree}
use Rattle.request.specs.Bytes.{tree_count, trees_bytes, request_bytes}
use Rattle.request.specs.Request.{Request}
use Rattle.request_log.specs.Log.{requests_bytes}
use Rattle.reflected_tree.specs.Reflected.{Reflected, empty, node, node_count, group_count, lower_count, ends_as}
use Rattle.reflected_tree.specs.Reading.{most_nodes, reflected_of}
use Rattle.reflected_tree.specs.Written.{first_id, roots, explode, chain, spread, own_requests, requests_of, list_bytes}
use Rattle.reflected_tree.proofs.Read.{reflected_read}

-- an id has at most 5 bytes, a number below 128 has one
id_most : (n : ℕ) → length (bytes_of n) ≤ 5
id_most n = (number_count n).1

small_count : (n : ℕ) → n < 128 → length (bytes_of n) ≡ 1
unfolding bytes_of
small_count n h = ap length (one_group 4 n h)

-- ## Groups: two for each node, one for a tree's leaf

lower_most : (c : Reflected) → lower_count c ≤ tree_count (roots c)
lower_most empty = omega arith
lower_most (node u l c r) = omega arith

pub groups_most : (t : Reflected) → group_count t + tree_count (roots t) ≤ 2 * node_count t
groups_most empty = omega arith
groups_most (node u l c r) = omega (arith, lower_most c, groups_most c, groups_most r)

-- ## Requests

-- an entry with few groups and few children
entry_most : (e : Entry) (c r : Forest) → e.quota < 128 → tree_count c < 128 → length (trees_bytes (tree e c r)) ≤ 7 + length (trees_bytes c) + length (trees_bytes r)
unfolding trees_bytes
entry_most e c r q k =
    omega (
      arith,
      length_four (bytes_of e.id) (bytes_of e.quota) (bytes_of (tree_count c)) (trees_bytes c ++ trees_bytes r),
      length-append (trees_bytes c) (trees_bytes r),
      id_most e.id,
      small_count e.quota q,
      small_count (tree_count c) k,
    )

none_most : length (trees_bytes none) ≤ 0
unfolding trees_bytes
none_most = omega arith

head_most : (u : ℕ) (t : Forest) → tree_count t < 128 → length (request_bytes (explode u t)) ≤ 7 + length (trees_bytes t)
unfolding request_bytes
head_most u t k =
    omega (
      arith,
      length_four (bytes_of u) (bytes_of 0) (bytes_of (tree_count t)) (trees_bytes t),
      id_most u,
      small_count 0 (omega arith),
      small_count (tree_count t) k,
    )

roots_few : (c : Reflected) → tree_count (roots c) ≤ group_count c
roots_few empty = omega arith
roots_few (node u l c r) = omega (arith, roots_few r)

roots_most : (c : Reflected) → group_count c < 128 → length (trees_bytes (roots c)) ≤ 7 * tree_count (roots c)
roots_most empty h = none_most
roots_most (node u l c r) h = omega (arith, entry_most (entry u (ends_as c)) none (roots r) (omega arith) (omega arith), none_most, roots_most r (omega arith))

chain_most : (u l : ℕ) (c : Reflected) → group_count c < 128 → length (request_bytes (chain u l c)) ≤ 28
chain_most u l c h =
    let low = entry l 1 in
    let middle = entry (first_id c) (group_count c) in
    let below : Forest = tree low none none in
    omega (
      arith,
      head_most u (tree (entry u 1) (tree middle below none) none) (omega arith),
      entry_most (entry u 1) (tree middle below none) none (omega arith) (omega arith),
      entry_most middle below none h (omega arith),
      entry_most low none none (omega arith) (omega arith),
      none_most,
    )

spread_most : (c : Reflected) → group_count c < 128 → length (request_bytes (spread c)) ≤ 7 + 7 * tree_count (roots c)
spread_most c h = omega (arith, roots_few c, head_most (first_id c) (roots c) (omega (arith, roots_few c)), roots_most c h)

-- ## Requests, each after its length

abbrev bytes_in_all : List Request → List ℕ
bytes_in_all qs = requests_bytes (map request_bytes qs)

none_in_all : length (bytes_in_all []) ≡ 0
unfolding requests_bytes flat_map
none_in_all = refl

one_in_all : (q : Request) (qs : List Request)
    → length (bytes_in_all (q ∷ qs)) ≡ length (bytes_of (length (request_bytes q))) + length (request_bytes q) + length (bytes_in_all qs)
unfolding requests_bytes flat_map
one_in_all q qs =
    omega (
      arith,
      length-append (bytes_of (length (request_bytes q)) ++ request_bytes q) (bytes_in_all qs),
      length-append (bytes_of (length (request_bytes q))) (request_bytes q),
    )

pub all_append : (p q : List Request) → bytes_in_all (p ++ q) ≡ bytes_in_all p ++ bytes_in_all q
unfolding requests_bytes
all_append p q =
    ap requests_bytes (map-append request_bytes p q)
    ∙ flat_append (λ request. bytes_of (length request) ++ request) (map request_bytes p) (map request_bytes q)

chain_in_all : (u l : ℕ) (c : Reflected) (qs : List Request) → group_count c < 128 → length (bytes_in_all (chain u l c ∷ qs)) ≤ 29 + length (bytes_in_all qs)
chain_in_all u l c qs h =
    let m = chain_most u l c h in omega (arith, one_in_all (chain u l c) qs, small_count (length (request_bytes (chain u l c))) (omega arith))

-- 29 bytes for each child
own_most : (u l : ℕ) (c : Reflected) → group_count c < 128 → length (bytes_in_all (own_requests u l c)) ≤ 29 * tree_count (roots c)
own_most u l empty h = omega (arith, none_in_all)
own_most u l (node v m d empty) h = omega (arith, chain_in_all u l (node v m d empty) [] h, none_in_all)
own_most u l (node v m d (node w k e s)) h =
    let c = node v m d (node w k e s) in
    omega (
      arith,
      chain_in_all u l c (spread c ∷ []) h,
      one_in_all (spread c) [],
      id_most (length (request_bytes (spread c))),
      spread_most c h,
      none_in_all,
    )

requests_most : (t : Reflected) → group_count t ≤ 128 → length (bytes_in_all (requests_of t)) + 29 * tree_count (roots t) ≤ 29 * node_count t
requests_most empty h = omega (arith, none_in_all)
requests_most (node u l c r) h =
    omega (
      arith,
      ap length (all_append (own_requests u l c) (requests_of c ++ requests_of r)),
      length-append (bytes_in_all (own_requests u l c)) (bytes_in_all (requests_of c ++ requests_of r)),
      ap length (all_append (requests_of c) (requests_of r)),
      length-append (bytes_in_all (requests_of c)) (bytes_in_all (requests_of r)),
      own_most u l c (omega arith),
      requests_most c (omega arith),
      requests_most r (omega arith),
    )

-- a tree, and one that was read
pub list_most : (u l : ℕ) (c : Reflected) → node_count (node u l c empty) ≤ most_nodes → length (list_bytes (node u l c empty)) ≤ 1833
unfolding list_bytes
list_most u l c h =
    let t = node u l c empty in
    let g = groups_most t in
    omega (
      arith,
      length-append (bytes_of u) (bytes_of (group_count t) ++ bytes_in_all (requests_of t)),
      length-append (bytes_of (group_count t)) (bytes_in_all (requests_of t)),
      id_most u,
      small_count (group_count t) (omega arith),
      requests_most t (omega arith),
    )

pub read_most : (bytes : List ℕ) {t : Reflected} → reflected_of bytes ≡ answer t → length (list_bytes t) ≤ 1833
read_most bytes h = let r = reflected_read bytes h in rw r.root (list_most r.upper r.lower r.children r.few)
