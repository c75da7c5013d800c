-- Small requests are legal, so that their bytes read back; a request of the list is a small one.
use mathlib.Core.Path.{◌≡◌, refl, ◌∙◌, ap}
use mathlib.Core.Logic.{◌⊎◌, inl, inr}
use mathlib.Core.Bool.{Bool, true, false, cond, ◌&&◌}
use mathlib.Core.List.Memᴰ
use mathlib.Core.List.{List, [], ◌∷◌, map, Memᴰ}
use Prim.Native.Nat.{ℕ, zero, suc, ◌+◌, ◌*◌, ◌≤◌, ◌<◌}
use native.Mathlib.Omega.{arith}
use lib.Dec.{leb}
use lib.ListN.{length, length-append}
use borrow.Author.Tests.{leb-true}
use Rattle.rules.specs.Limits.{greatest, greatest_depth}
use Rattle.rules.proofs.Bools.{and_both}
use Rattle.number.proofs.Laws.{number_count}
use Rattle.request_log.proofs.RoundTrip.{Short, requests_back}
use Rattle.request.specs.Entries.{Entry, pick}
use Rattle.request.specs.Forest.{Forest, none, tree, pre_l}
use Rattle.request.specs.Numbering.{size}
use Rattle.request.specs.Request.{Request}
use Rattle.request.specs.Legal.{depth, LegalNumber, LegalTrees, Legal}
use Rattle.request.specs.Bytes.{tree_count, direction_number, trees_bytes, request_bytes}
use Rattle.request.proofs.Numbering.{size_length}
use Rattle.request.proofs.Bytes.{request_back}
use Rattle.small.specs.Shapes.{numbered}
use Rattle.small.specs.Small.{Small, small, greatest_size, listed, list_bytes}
use Rattle.small.specs.Promise.{Readable}
use Rattle.small.proofs.Small.{numbered_length, only}

-- ## Legal

-- an entry of those with ids from i upward
in_numbered : (e : Entry) (i n : ℕ) → Memᴰ e (numbered i n) → (i ≤ e.id) × (e.id < i + n) × (e.quota ≡ 1)
in_numbered e i zero m = absurd (Memᴰ.not-nil m)
in_numbered e i (suc n) m = go (in_numbered e (suc i) n) (Memᴰ.cases_cons m)
  where
    go : (Memᴰ e (numbered (suc i) n) → (suc i ≤ e.id) × (e.id < suc i + n) × (e.quota ≡ 1))
        → (e ≡ record { id = i; quota = 1 }) ⊎ Memᴰ e (numbered (suc i) n) → (i ≤ e.id) × (e.id < i + suc n) × (e.quota ≡ 1)
    go below (inl same) = let a : e.id ≡ i = ap (λ (v : Entry). v.id) same in (omega arith, omega arith, ap (λ (v : Entry). v.quota) same)
    go below (inr k) = let r = below k in (omega arith, omega arith, r.2)

-- trees whose entries have legal numbers
legal_trees : (t : Forest) → ((e : Entry) → Memᴰ e (pre_l t) → LegalNumber e.id × LegalNumber e.quota) → LegalTrees t
legal_trees none h = tt
legal_trees (tree e c r) h =
    let here = h e (Memᴰ.head refl) in (
      here.0,
      here.1,
      legal_trees c (λ v m. h v (Memᴰ.tail (Memᴰ.append_left (pre_l r) m))),
      legal_trees r (λ v m. h v (Memᴰ.tail (Memᴰ.append_right (pre_l c) m))),
    )

depth_size : (t : Forest) → depth t ≤ size t
depth_size none = omega arith
depth_size (tree e c r) = go (leb (depth r) (depth c)) (depth_size c) (depth_size r)
  where
    go : (b : Bool) → depth c ≤ size c → depth r ≤ size r → pick b (suc (depth c)) (depth r) ≤ suc (size c + size r)
    go true h k = omega arith
    go false h k = omega arith

pub small_size : (n : ℕ) (q : Request) → Small n q → size q.trees ≡ n
small_size n q s = size_length q.trees ∙ ap length s.entries ∙ numbered_length 1 n

-- a small request of up to 16 entries is within the limits, whatever its shape
pub small_legal : (n : ℕ) (q : Request) → n ≤ greatest_depth → Small n q → Legal q
small_legal n q h s =
    let e = s.exploded in
    let some = s.some in
    let z = small_size n q s in
    let l = size_length q.trees in
    record {
      exploded = (omega arith, omega arith);
      trees =
          legal_trees q.trees
          (λ v m. let r = in_numbered v 1 n (rw s.entries at m) in ((omega arith, omega arith), (omega arith, omega arith)));
      entries_some = omega arith;
      entries_most = omega arith;
      deep = omega (arith, depth_size q.trees);
    }

-- ## The list

-- what stands in the list for a size
pub in_listed : (size : ℕ) (q : Request) → Memᴰ q (listed size) → (size ≤ greatest_size) × Small size q
unfolding listed
in_listed size q m = go (leb 1 size && leb size greatest_size) refl m
  where
    go : (b : Bool) → (leb 1 size && leb size greatest_size) ≡ b → Memᴰ q (cond b (small size) []) → (size ≤ greatest_size) × Small size q
    go true e m = (leb-true size greatest_size (and_both (leb 1 size) (leb size greatest_size) e).1, only size q m)
    go false e m = absurd (Memᴰ.not-nil m)

-- ## As `grow` reads it

trees_most : (t : Forest) → length (trees_bytes t) ≤ 15 * size t
unfolding trees_bytes
trees_most none = omega arith
trees_most (tree e c r) =
    let a = number_count e.id in
    let b = number_count e.quota in
    let k = number_count (tree_count c) in
    simp length-append (omega (arith, trees_most c, trees_most r))

request_most : (q : Request) → length (request_bytes q) ≤ 15 + 15 * size q.trees
unfolding request_bytes
request_most q =
    let a = number_count q.exploded in
    let b = number_count (direction_number q.direction) in
    let k = number_count (tree_count q.trees) in
    simp length-append (omega (arith, trees_most q.trees))

short : (l : List Request) → ((q : Request) → Memᴰ q l → length (request_bytes q) ≤ greatest) → Short (map request_bytes l)
short [] h = tt
short (q ∷ l) h = (h q (Memᴰ.head refl), short l (λ p m. h p (Memᴰ.tail m)))

pub readable : (n : ℕ) → Readable n
unfolding list_bytes
readable n = record {
  parts =
      requests_back (map request_bytes (listed n)) []
      (short (listed n) (λ q m. let s = in_listed n q m in omega (arith, small_size n q s.1, request_most q)));
  reads = λ q m. let s = in_listed n q m in request_back q (small_legal n q (omega arith) s.1);
}
