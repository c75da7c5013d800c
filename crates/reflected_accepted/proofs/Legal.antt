-- The requests of a reflected tree are legal where its ids are numbers and it has at most 256 groups; and how long a legal request's bytes are.
use mathlib.Core.Path.{◌≡◌, refl}
use mathlib.Core.Bool.{Bool, true, false}
use Prim.Native.Nat.{ℕ, ◌*◌, ◌≤◌}
use native.Mathlib.Omega.{arith}
use lib.Dec.{leb}
use lib.ListN.{length, length-append}
use Rattle.rules.specs.Limits.{greatest, most_entries}
use Rattle.number.proofs.Laws.{number_count}
use Rattle.request.specs.Entries.{pick, one_at, total, times}
use Rattle.request.specs.Forest.{Forest, none, tree, pre_l}
use Rattle.request.specs.Numbering.{size}
use Rattle.request.specs.Request.{Request}
use Rattle.request.specs.Legal.{depth, LegalTrees, Legal}
use Rattle.request.specs.Bytes.{tree_count, direction_number, trees_bytes, request_bytes}
use Rattle.request.proofs.Numbering.{size_length}
use Rattle.reflected_tree.specs.Reflected.{Reflected, empty, node, group_count, groups}
use Rattle.reflected_tree.specs.Written.{roots, chain, spread}
use Rattle.reflected_tree.proofs.Groups.{parts}
use Rattle.reflected_tree.proofs.Read.{LegalIds}

-- ## Trees as single entries

pub roots_total : (t : Reflected) → total (pre_l (roots t)) ≡ group_count t
roots_total empty = refl
roots_total (node u l c r) = omega (arith, roots_total r)

pub roots_times : (x : ℕ) (t : Reflected) → times x (pre_l (roots t)) ≤ times x (groups t)
roots_times x empty = omega arith
roots_times x (node u l c r) = omega (arith, roots_times x r, parts (one_at x) u l c r)

pub roots_length : (t : Reflected) → length (pre_l (roots t)) ≤ group_count t
roots_length empty = omega arith
roots_length (node u l c r) = omega (arith, roots_length r)

roots_legal : (t : Reflected) → LegalIds t → group_count t ≤ greatest → LegalTrees (roots t)
roots_legal empty ids h = tt
roots_legal (node u l c r) ids h = (ids.0, (omega arith, omega arith), tt, roots_legal r ids.3 (omega arith))

roots_depth : (t : Reflected) → depth (roots t) ≤ 1
roots_depth empty = omega arith
roots_depth (node u l c r) = go (leb (depth (roots r)) 0) (roots_depth r)
  where
    go : (b : Bool) → depth (roots r) ≤ 1 → pick b 1 (depth (roots r)) ≤ 1
    go true h = omega arith
    go false h = h

-- ## The two requests

pub chain_legal : (u l v m : ℕ) (d r : Reflected) → LegalIds (node u l (node v m d r) empty) → group_count (node v m d r) ≤ most_entries
    → Legal (chain u l (node v m d r))
chain_legal u l v m d r ids h = record {
  exploded = ids.0;
  trees = (ids.0, (omega arith, omega arith), (ids.2.0, (omega arith, omega arith), (ids.1, (omega arith, omega arith), tt, tt), tt), tt);
  entries_some = omega arith;
  entries_most = omega arith;
  deep = omega arith;
}

pub spread_legal : (v m : ℕ) (d r : Reflected) → LegalIds (node v m d r) → group_count (node v m d r) ≤ most_entries → Legal (spread (node v m d r))
spread_legal v m d r ids h = record {
  exploded = ids.0;
  trees = roots_legal (node v m d r) ids (omega arith);
  entries_some = omega arith;
  entries_most = omega (arith, roots_length (node v m d r));
  deep = omega (arith, roots_depth (node v m d r));
}

-- ## Bytes

trees_most : (t : Forest) → length (trees_bytes t) ≤ 15 * size t
unfolding trees_bytes
trees_most none = omega arith
trees_most (tree e c r) =
    let a = number_count e.id in
    let b = number_count e.quota in
    let k = number_count (tree_count c) in
    simp length-append (omega (arith, trees_most c, trees_most r))

-- a legal request's length is a number
pub request_short : (q : Request) → Legal q → length (request_bytes q) ≤ greatest
unfolding request_bytes
request_short q legal =
    let a = number_count q.exploded in
    let b = number_count (direction_number q.direction) in
    let k = number_count (tree_count q.trees) in
    let m = legal.entries_most in
    simp length-append (omega (arith, trees_most q.trees, size_length q.trees))
