-- What `separate` says of the ids and of the boxes of rows.
use mathlib.Core.Path.{◌≡◌, refl, ap, sym, ◌∙◌}
use mathlib.Core.Bool.{Bool, true, false, not, ◌&&◌, ◌||◌, not-not}
use mathlib.Core.List.{List, [], ◌∷◌, map}
use Prim.Native.Nat.{ℕ, zero, suc, ◌+◌, ◌≤◌}
use native.Mathlib.Omega.{arith}
use lib.Dec.{eqb}
use lib.ListN.{length, take, drop}
use lib.Seq.{take-length}
use Rattle.std.proofs.lemmas.List.{take_all}
use Rattle.coordinates.specs.Coordinates.{apart}
use Rattle.boxes.specs.Boxes.{box_of, disjoint}
use Rattle.boxes.specs.declared.Box.{Box}
use Rattle.distinct.specs.Distinct.{none_is, all_differ}
use Rattle.separate.specs.Separate.{boxes_of, none_meets, all_disjoint}
use Rattle.table.specs.Columns.{low_l, low_r, size_of, Columns, row_at, rows_from, rows}
use Rattle.table.specs.Inside.Held.{Holds}
use Rattle.table.specs.declared.Row.{Row}
use Rattle.table.proofs.InUse.{column_next, column_rows}
use Rattle.table.specs.Check.{some_row, some_pair, same_id, ranges_meet}
use Rattle.table.specs.InUse.{columns_of, rows_of}
use Rattle.table.specs.declared.in_use.RowsInUse.{RowsInUse}

not_or : (a b : Bool) → (not a && not b) ≡ not (a || b)
not_or true b = refl
not_or false b = refl

-- ## Ids

none_same : (w : Row) (t : List Row) → none_is w.id (map (λ v. v.id) t) ≡ not (some_row (same_id w) t)
unfolding none_is some_row same_id
none_same w [] = refl
none_same w (v ∷ t) = rw (none_same w t) (not_or (eqb w.id v.id) (some_row (same_id w) t))

all_differ_lem : (t : List Row) → all_differ (map (λ w. w.id) t) ≡ not (some_pair same_id t)
unfolding all_differ some_pair
all_differ_lem [] = refl
all_differ_lem (w ∷ t) = rw (none_same w t, all_differ_lem t) (not_or (some_row (same_id w) t) (some_pair same_id t))

-- ## Boxes

-- the same columns have the same boxes
pub disjoint_of : {l l' r r' q q' : List ℕ} → l ≡ l' → r ≡ r' → q ≡ q' → all_disjoint (boxes_of l r q) ≡ all_disjoint (boxes_of l' r' q')
disjoint_of e f g = rw (e, f, g)

abbrev box_for : Row → Box
box_for w = box_of (low_l w) (low_r w) (size_of w)

boxes_of_lem : (c : Columns) (i n : ℕ) → i + n ≤ length c.l → i + n ≤ length c.r → i + n ≤ length c.q
    → boxes_of (take n (drop i c.l)) (take n (drop i c.r)) (take n (drop i c.q)) ≡ map box_for (rows_from c i n)
unfolding rows_from boxes_of
boxes_of_lem c i zero hl hr hq = refl
boxes_of_lem c i (suc n) hl hr hq =
    rw (column_next c.l i n hl, column_next c.r i n hr, column_next c.q i n hq)
    (ap (λ (s : List Box). box_for (row_at c i) ∷ s) (boxes_of_lem c (suc i) n (omega arith) (omega arith) (omega arith)))

not_meet : (a b : Bool) → (a && b) ≡ not (not a || not b)
not_meet true true = refl
not_meet true false = refl
not_meet false b = refl

clear : (w v : Row) → disjoint (box_for w) (box_for v) ≡ not (ranges_meet w v)
unfolding ranges_meet disjoint
clear w v = not_meet (apart (low_l w) (size_of w) (low_l v) (size_of v)) (apart (low_r w) (size_of w) (low_r v) (size_of v))

none_meets_lem : (w : Row) (t : List Row) → none_meets (box_for w) (map box_for t) ≡ not (some_row (ranges_meet w) t)
unfolding none_meets some_row
none_meets_lem w [] = refl
none_meets_lem w (v ∷ t) = rw (clear w v, none_meets_lem w t) (not_or (ranges_meet w v) (some_row (ranges_meet w) t))

all_disjoint_lem : (t : List Row) → all_disjoint (map box_for t) ≡ not (some_pair ranges_meet t)
unfolding all_disjoint some_pair
all_disjoint_lem [] = refl
all_disjoint_lem (w ∷ t) = rw (none_meets_lem w t, all_disjoint_lem t) (not_or (some_row (ranges_meet w) t) (some_pair ranges_meet t))

-- ## The check

turned : {a b s t : Bool} → t ≡ a → a ≡ not s → not t ≡ b → s ≡ b
turned e f g = sym (not-not _) ∙ ap not (sym (e ∙ f)) ∙ g

module _ (c : Columns) (n : ℕ) (h : Holds c n) {t b : Bool} where
  -- 12 is for ids that do not all differ
  pub twelve : t ≡ all_differ (take n c.id) → not t ≡ b → some_pair same_id (rows c n) ≡ b
  twelve e = turned e (ap all_differ (column_rows (λ w. w.id) c.id c (λ i. refl) 0 n (omega (arith, h.in_id))) ∙ all_differ_lem (rows c n))

  -- 13 is for boxes that are not all disjoint
  pub thirteen : t ≡ all_disjoint (boxes_of (take n c.l) (take n c.r) (take n c.q)) → not t ≡ b → some_pair ranges_meet (rows c n) ≡ b
  thirteen e =
      turned e
      (ap all_disjoint (boxes_of_lem c 0 n (omega (arith, h.in_l)) (omega (arith, h.in_r)) (omega (arith, h.in_q))) ∙ all_disjoint_lem (rows c n))

-- the same of the rows in use, whose columns are cut to the count
module _ (u : RowsInUse) where
  held : Holds (columns_of u) (length u.id.now)
  held = record { in_id = omega arith; in_l = omega (arith, u.same_l); in_r = omega (arith, u.same_r); in_q = omega (arith, u.same_q) }

  pub twelve_in_use : {t b : Bool} → t ≡ all_differ u.id.now → not t ≡ b → some_pair same_id (rows_of u) ≡ b
  twelve_in_use e = twelve (columns_of u) (length u.id.now) held (e ∙ ap all_differ (sym (take-length u.id.now)))

  pub thirteen_in_use : {t b : Bool} → t ≡ all_disjoint (boxes_of u.l.now u.r.now u.q.now) → not t ≡ b → some_pair ranges_meet (rows_of u) ≡ b
  thirteen_in_use e =
      let n = length u.id.now in
      let l : take n u.l.now ≡ u.l.now = take_all n u.l.now (omega (arith, u.same_l)) in
      let r : take n u.r.now ≡ u.r.now = take_all n u.r.now (omega (arith, u.same_r)) in
      let q : take n u.q.now ≡ u.q.now = take_all n u.q.now (omega (arith, u.same_q)) in
      let same : boxes_of u.l.now u.r.now u.q.now ≡ boxes_of (take n u.l.now) (take n u.r.now) (take n u.q.now) = rw (l, r, q) in
      thirteen (columns_of u) n held (e ∙ ap all_disjoint same)
