-- The list's bytes are those that the code puts together, since every number of a small request has one byte.
use mathlib.Core.Path.{◌≡◌, refl, sym, ◌∙◌, ap, ap₂}
use mathlib.Core.Logic.{◌≢◌}
use mathlib.Core.Bool.{and-false}
use mathlib.Core.List.{List, [], ◌∷◌, ◌++◌, map, flat_map, append_assoc, Memᴰ}
use Prim.Native.Nat.{ℕ, zero, suc, ◌+◌, ◌*◌, ◌≤◌, ◌<◌}
use native.Mathlib.Nat.{mul_comm, mul-le-mul}
use native.Mathlib.Omega.{arith}
use lib.Dec.{leb}
use lib.ListN.{length, get_or}
use borrow.Author.Tests.{le-leb, lt-leb}
use Rattle.rules.proofs.Cases.{by_lt}
use Rattle.rules.proofs.Pieces.{flat_append}
use Rattle.number.specs.Number.{bytes_of}
use Rattle.number.proofs.Groups.{one_group}
use Rattle.request_log.specs.Log.{requests_bytes}
use Rattle.request.specs.Forest.{Forest, none, tree, Direction, upright, inverted}
use Rattle.request.specs.Request.{Request}
use Rattle.request.specs.Bytes.{direction_number, trees_bytes, request_bytes}
use Rattle.request.proofs.Bytes.{direction_small}
use Rattle.small.specs.Shapes.{up_from, shapes, first_trees, other_trees, forest_of}
use Rattle.small.specs.Small.{request_for, small_of, small, greatest_size, listed, list_bytes}
use Rattle.small.proofs.Shapes.{Closes, forest_trees, cut_first, closes_length, in_shapes}
use Rattle.small.proofs.Small.{of_small, of_either}
use Rattle.small.proofs.Computed.{counts}
use Rattle.small_requests.specs.Inside.Rows.{lead, entries_bytes, shapes_bytes, direction_bytes}
use Rattle.small_requests.proofs.Lists.{flat_flat, flat_map_lem, flat_same, flat_length}

-- ## One request

one_byte : (v : ℕ) → v < 128 → bytes_of v ≡ v ∷ []
unfolding bytes_of
one_byte v h = one_group 4 v h

cut_bytes : (k : ℕ) (t : Forest) → trees_bytes (first_trees k t) ++ trees_bytes (other_trees k t) ≡ trees_bytes t
unfolding trees_bytes
cut_bytes zero t = refl
cut_bytes (suc k) none = refl
cut_bytes (suc k) (tree e c r) = simp (append_assoc, cut_bytes k r)

forest_bytes : (i due : ℕ) (s : List ℕ) → Closes due s → i + length s ≤ 127 → trees_bytes (forest_of i s) ≡ entries_bytes i s
unfolding trees_bytes entries_bytes
forest_bytes i zero [] c h = refl
forest_bytes i (suc due) [] c h = absurd c
forest_bytes i zero (k ∷ s) c h = absurd c
forest_bytes i (suc due) (k ∷ s) c h =
    let l = closes_length (due + k) s c in
    let e = forest_trees (suc i) (due + k) s c in
    rw (one_byte i (omega arith), one_byte 1 (omega arith), cut_first k (forest_of (suc i) s) (omega arith), one_byte k (omega arith), cut_bytes k (forest_of (suc i) s), forest_bytes (suc i) (due + k) s c (omega arith))

entries_length : (i : ℕ) (s : List ℕ) → length (entries_bytes i s) ≡ 3 * length s
unfolding entries_bytes
entries_length i [] = refl
entries_length i (k ∷ s) = omega (arith, entries_length (suc i) s)

-- bytes after their length
abbrev lengthed : List ℕ → List ℕ
lengthed bytes = bytes_of (length bytes) ++ bytes

-- a request after its length
request_bytes_lem : (d : Direction) (n due : ℕ) (s : List ℕ) → n ≤ 40 → length s ≡ n → Closes due s
    → lengthed (request_bytes (request_for d s)) ≡ lead (direction_number d) n due ++ entries_bytes 1 s
unfolding request_bytes
request_bytes_lem d n due s h l c =
    let k = direction_small d in
    let b = closes_length due s c in
    let e : request_bytes (request_for d s) ≡ 1 ∷ direction_number d ∷ due ∷ entries_bytes 1 s =
    rw (one_byte 1 (omega arith), one_byte (direction_number d) (omega arith), forest_trees 1 due s c, one_byte due (omega arith), forest_bytes 1 due s c (omega arith)) in
    let m : length (1 ∷ direction_number d ∷ due ∷ entries_bytes 1 s) ≡ 3 + 3 * n = omega (arith, entries_length 1 s) in
    rw (e, m, one_byte (3 + 3 * n) (omega arith))

-- ## The list

-- the bytes of some requests, each after its length
abbrev requests : List Request → List ℕ
requests l = flat_map (λ q. lengthed (request_bytes q)) l

requests_are : (l : List Request) → requests_bytes (map request_bytes l) ≡ requests l
unfolding requests_bytes
requests_are l = flat_map_lem lengthed request_bytes l

direction_bytes_lem : (d : Direction) (n : ℕ) → n ≤ 40 → requests (small_of d n) ≡ direction_bytes (direction_number d) n
unfolding small_of direction_bytes shapes_bytes
direction_bytes_lem d n h =
    flat_flat (λ q. lengthed (request_bytes q)) (λ trees. map (request_for d) (shapes n trees)) (up_from 1 n)
    ∙ flat_same _ _ (up_from 1 n)
    (λ trees _.
    flat_map_lem (λ q. lengthed (request_bytes q)) (request_for d) (shapes n trees)
    ∙ flat_same _ _ (shapes n trees) (λ s m. let r = in_shapes n trees s m in request_bytes_lem d n trees s h r.0 r.1))

none_0 : small 0 ≡ []
unfolding small small_of flat_map
none_0 = refl

-- sizes up to 6: size 0 has none
listed_small : (n : ℕ) → n ≤ greatest_size → listed n ≡ small n
unfolding listed
listed_small zero h = sym none_0
listed_small (suc n) h = rw (le-leb 1 (suc n) (omega arith), le-leb (suc n) greatest_size h)

listed_none : (n : ℕ) → greatest_size < n → listed n ≡ []
unfolding listed
listed_none n h = rw (lt-leb n greatest_size h, and-false (leb 1 n))

pub no_bytes : (n : ℕ) → greatest_size < n → list_bytes n ≡ []
unfolding list_bytes requests_bytes flat_map
no_bytes n h = rw (listed_none n h)

-- the two directions, one after the other
pub list_halves : (n : ℕ) → n ≤ greatest_size → list_bytes n ≡ direction_bytes 0 n ++ direction_bytes 1 n
unfolding list_bytes small
list_halves n h =
    requests_are (listed n)
    ∙ ap requests (listed_small n h)
    ∙ flat_append (λ q. lengthed (request_bytes q)) (small_of upright n) (small_of inverted n)
    ∙ ap₂ (λ a b. a ++ b) (direction_bytes_lem upright n (omega arith)) (direction_bytes_lem inverted n (omega arith))

-- ## How many bytes: each request has 4, and 3 for each entry

request_length : (d : Direction) (n : ℕ) (q : Request) → n ≤ 40 → Memᴰ q (small_of d n) → length (lengthed (request_bytes q)) ≡ 4 + 3 * n
request_length d n q h m =
    let r = of_small d n q m in
    ap (λ (p : Request). length (lengthed (request_bytes p))) r.6
    ∙ ap length (request_bytes_lem d n r.0 r.1 h r.4 r.5)
    ∙ omega (arith, entries_length 1 r.1, r.4)

pub list_length : (n : ℕ) → n ≤ greatest_size → length (list_bytes n) ≡ (4 + 3 * n) * length (listed n)
unfolding list_bytes
list_length n h =
    ap length (requests_are (listed n))
    ∙ flat_length (λ q. lengthed (request_bytes q)) (4 + 3 * n) (listed n)
    (λ q m. let r = of_either n q (rw (listed_small n h) at m) in request_length r.0 n q (omega arith) r.1)

-- ## How many requests

-- the count of a size among those computed
abbrev pub count : ℕ → List ℕ → ℕ
count n l = get_or l n 0

pub other_sizes : (n : ℕ) → n ≢ 1 → n ≢ 2 → n ≢ 3 → n ≢ 4 → n ≢ 5 → n ≢ 6 → length (listed n) ≡ 0
other_sizes n a b c d e f =
    by_lt greatest_size n
    (λ h. ap length (listed_none n h))
    (λ h. let z : n ≡ 0 = omega arith in let e : small n ≡ [] = rw z none_0 in ap length (listed_small n h ∙ e))

-- no size has more than the greatest
pub few : (n : ℕ) → n ≤ greatest_size → length (listed n) ≤ 264
few zero h = omega (arith, ap (count 0) counts)
few (suc zero) h = omega (arith, ap (count 1) counts)
few (suc (suc zero)) h = omega (arith, ap (count 2) counts)
few (suc (suc (suc zero))) h = omega (arith, ap (count 3) counts)
few (suc (suc (suc (suc zero)))) h = omega (arith, ap (count 4) counts)
few (suc (suc (suc (suc (suc zero))))) h = omega (arith, ap (count 5) counts)
few (suc (suc (suc (suc (suc (suc zero)))))) h = omega (arith, ap (count 6) counts)
few (suc (suc (suc (suc (suc (suc (suc n))))))) h = absurd (omega arith)

-- the bytes of so many requests
module _ (n : ℕ) (h : n ≤ greatest_size) {k : ℕ} (e : k ≡ length (listed n)) where
  pub byte_count : k * (4 + 3 * n) ≡ length (list_bytes n)
  byte_count = mul_comm k (4 + 3 * n) ∙ rw e (sym (list_length n h))

  pub byte_count_fits : k * (4 + 3 * n) ≤ 264 * 22
  byte_count_fits = mul-le-mul {n₂ = 264} {m₂ = 22} (omega (arith, few n h)) (omega arith)

-- the bytes of every size
pub list_most : (n : ℕ) → length (list_bytes n) ≤ 264 * 22
list_most n =
    by_lt greatest_size n
    (λ h. omega (arith, ap length (no_bytes n h)))
    (λ h. omega (arith, byte_count n h refl, byte_count_fits n h refl))
