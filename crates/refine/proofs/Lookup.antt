-- The row of a group, and how often an id comes.
use mathlib.Core.Path.{◌≡◌, refl, ap, sym}
use mathlib.Core.Bool.{true, false, cond}
use mathlib.Core.List.{List, [], ◌∷◌}
use Prim.Native.Nat.{ℕ, ◌+◌, ◌≤◌}
use native.Mathlib.Omega.{arith}
use lib.Dec.{eqb}
use lib.ListN.{length, length-map}
use borrow.Author.Tests.{eqb-true}
use Rattle.rules.proofs.Bools.{or_none}
use Rattle.request.specs.Entries.{pick, times, quota_of, Distinct}
use Rattle.request.proofs.Sums.{quota_none}
use Rattle.table.specs.declared.Row.{Row}
use Rattle.table.specs.Columns.{l_of, r_of}
use Rattle.table.specs.Check.{some_row, some_pair, same_id}
use Rattle.refine.specs.Refine.{groups_of, row_in}

-- a group's numbers stand in its row
pub l_row : (x : ℕ) (t : List Row) → l_of x t ≡ (row_in x t).l
l_row x [] = refl
l_row x (w ∷ t) = elim (eqb x w.id) as (λ b. pick b w.l (l_of x t) ≡ (cond b w (row_in x t)).l) [ true ↦ refl | false ↦ l_row x t ]

pub r_row : (x : ℕ) (t : List Row) → r_of x t ≡ (row_in x t).r
r_row x [] = refl
r_row x (w ∷ t) = elim (eqb x w.id) as (λ b. pick b w.r (r_of x t) ≡ (cond b w (row_in x t)).r) [ true ↦ refl | false ↦ r_row x t ]

pub id_row : (x : ℕ) (t : List Row) → 1 ≤ times x (groups_of t) → (row_in x t).id ≡ x
id_row x [] h = absurd (omega arith)
id_row x (w ∷ t) h =
    (elim (eqb x w.id) as (λ b. eqb x w.id ≡ b → 1 ≤ pick b 1 0 + times x (groups_of t) → (cond b w (row_in x t)).id ≡ x)
    [ true ↦ λ e h. sym (eqb-true _ _ e) | false ↦ λ e h. id_row x t (omega arith) ]) refl h

pub quota_row : (x : ℕ) (t : List Row) → times x (groups_of t) ≤ 1 → quota_of x (groups_of t) ≡ (row_in x t).q
quota_row x [] h = refl
quota_row x (w ∷ t) h =
    (elim (eqb x w.id) as (λ b. pick b 1 0 + times x (groups_of t) ≤ 1 → pick b w.q 0 + quota_of x (groups_of t) ≡ (cond b w (row_in x t)).q)
    [ true ↦ λ h. omega (arith, quota_none x (groups_of t) (omega arith)) | false ↦ λ h. omega (arith, quota_row x t (omega arith)) ]) h

-- equal ids in no pair of rows: no id comes twice
no_same : (w : Row) (t : List Row) → some_row (same_id w) t ≡ false → times w.id (groups_of t) ≡ 0
unfolding some_row same_id
no_same w [] h = refl
no_same w (v ∷ t) h =
    let b = or_none (eqb w.id v.id) _ h in
    let k : pick (eqb w.id v.id) 1 0 ≡ 0 = rw b.0 in
    omega (arith, no_same w t b.1)

pub ids_distinct : (t : List Row) → some_pair same_id t ≡ false → Distinct (groups_of t)
unfolding some_pair
ids_distinct [] h x = omega arith
ids_distinct (w ∷ t) h x =
    let b = or_none (some_row (same_id w) t) _ h in
    (elim (eqb x w.id) as (λ c. eqb x w.id ≡ c → pick c 1 0 + times x (groups_of t) ≤ 1)
    [ true ↦ λ e. omega (arith, no_same w t b.0, ap (λ y. times y (groups_of t)) (eqb-true x w.id e)) | false ↦ λ e. omega (arith, ids_distinct t b.1 x) ]) refl

-- as many groups as rows
pub groups_length : (t : List Row) → length (groups_of t) ≡ length t
groups_length t = length-map t _
