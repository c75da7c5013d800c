-- Laws of a tree's groups: sums over them, and how many there are.
use mathlib.Core.Path.{◌≡◌, refl}
use mathlib.Core.List.{◌∷◌, ◌++◌}
use Prim.Native.Nat.{ℕ, ◌+◌, ◌*◌, ◌≤◌}
use native.Mathlib.Omega.{arith}
use lib.ListN.{length, length-append}
use Rattle.request.specs.Entries.{Entry, entry, one_at, no_quota, sum, times, Same, Positive}
use Rattle.request.specs.Forest.{pre_l}
use Rattle.request.proofs.Sums.{sum_append}
use Rattle.reflected_tree.specs.Reflected.{Reflected, empty, node, lower_count, lower_of, group_count, node_count, groups, groups_r, uppers}

pub parts : (f : Entry → ℕ) (u l : ℕ) (c r : Reflected)
    → sum f (groups (node u l c r)) ≡ f (entry u 1) + (sum f (groups c) + (sum f (lower_of l c) + sum f (groups r)))
parts f u l c r = omega (arith, sum_append f (groups c) (lower_of l c ++ groups r), sum_append f (lower_of l c) (groups r))

-- right to left the groups are the same
pub same_groups : (t : Reflected) → Same (groups_r t) (groups t)
same_groups empty f = refl
same_groups (node u l c r) f =
    omega (
      arith,
      parts f u l c r,
      sum_append f (groups_r r) (entry u 1 ∷ (groups_r c ++ lower_of l c)),
      sum_append f (groups_r c) (lower_of l c),
      same_groups c f,
      same_groups r f,
    )

lower_positive : (l : ℕ) (c : Reflected) → Positive (lower_of l c)
lower_positive l empty = refl
lower_positive l (node u m c r) = refl

pub groups_positive : (t : Reflected) → Positive (groups t)
groups_positive empty = refl
groups_positive (node u l c r) = omega (arith, parts no_quota u l c r, lower_positive l c, groups_positive c, groups_positive r)

pub lower_length : (l : ℕ) (c : Reflected) → length (lower_of l c) ≡ lower_count c
lower_length l empty = refl
lower_length l (node u m c r) = refl

pub groups_length : (t : Reflected) → length (groups t) ≡ group_count t
groups_length empty = refl
groups_length (node u l c r) =
    omega (
      arith,
      length-append (groups c) (lower_of l c ++ groups r),
      length-append (lower_of l c) (groups r),
      groups_length c,
      groups_length r,
      lower_length l c,
    )

lower_most : (c : Reflected) → lower_count c ≤ 1
lower_most empty = omega arith
lower_most (node u l c r) = omega arith

pub count_most : (t : Reflected) → group_count t ≤ 2 * node_count t
count_most empty = omega arith
count_most (node u l c r) = omega (arith, lower_most c, count_most c, count_most r)

-- the upper half
pub uppers_positive : (t : Reflected) → Positive (pre_l (uppers t))
uppers_positive empty = refl
uppers_positive (node u l c r) =
    omega (arith, sum_append no_quota (pre_l (uppers c)) (pre_l (uppers r)), uppers_positive c, uppers_positive r)

pub uppers_times : (x : ℕ) (t : Reflected) → times x (pre_l (uppers t)) ≤ times x (groups t)
uppers_times x empty = omega arith
uppers_times x (node u l c r) =
    omega (arith, parts (one_at x) u l c r, sum_append (one_at x) (pre_l (uppers c)) (pre_l (uppers r)), uppers_times x c, uppers_times x r)
