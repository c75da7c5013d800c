-- A table that passed the check, as a request is judged by it: its groups' ids and quotas are those of its columns.
use mathlib.Core.Path.{◌≡◌, refl, ap, sym, ◌∙◌}
use mathlib.Core.List.{map, map-map}
use Prim.Native.Nat.{ℕ, zero, suc, ◌<◌}
use native.Mathlib.Omega.{arith}
use mathlib.Core.Bool.{cond}
use lib.Dec.{ltb}
use lib.ListN.{length, get_or, take}
use lib.Seq.{take-take, get_or-take, length-take-le}
use borrow.Author.Tests.{eq-eqb, ne_eqb, lt-ltb}
use Rattle.std.specs.Prelude.{Option, Some, None}
use Rattle.std.specs.Option.{IsSome}
use Rattle.rules.proofs.Cases.{by_eq}
use Rattle.rules.specs.Answers.{answer, then}
use Rattle.request.specs.Entries.{Entry, quota, quota_of}
use Rattle.request.specs.Request.{Request, entries}
use Rattle.request.specs.Numbering.{whole}
use Rattle.request.specs.Acceptance.{accepted}
use Rattle.request.proofs.Numbering.{whole_total}
use Rattle.table.specs.declared.Row.{Row}
use Rattle.table.specs.Columns.{Columns, row_at, rows_from, rows}
use Rattle.table.specs.InUse.{columns_of, Cut}
use Rattle.table.specs.declared.in_use.RowsInUse.{RowsInUse}
use Rattle.table.specs.Check.{checked}
use Rattle.table.specs.Places.{index_from, place_of}
use Rattle.table.proofs.Passing.{Passed, check_passed}
use Rattle.table.proofs.Rows.{rows_length}
use Rattle.judging.specs.Judging.{judged_in}
use Rattle.judging.proofs.Accepting.{ids_of, judged_is}
use Rattle.refine.specs.Refine.{group_of, groups_of, row_in}
use Rattle.refine.proofs.Lookup.{quota_row, ids_distinct, groups_length}
use Rattle.refine.proofs.Placement.{map_rows}

-- the row of an id stands where the id does
index_row : (c : Columns) (none x j m : ℕ) → index_from j none x (map (λ w. w.id) (rows_from c j m)) < none
    → row_in x (rows_from c j m) ≡ row_at c (index_from j none x (map (λ w. w.id) (rows_from c j m)))
unfolding index_from rows_from
index_row c none x j zero h = absurd (omega arith)
index_row c none x j (suc m) h =
    by_eq x (get_or c.id j 0)
    (λ e. rw (eq-eqb (get_or c.id j 0) x (sym e), eq-eqb x (get_or c.id j 0) e))
    (λ e.
    let f = ne_eqb (get_or c.id j 0) x (λ z. e (sym z)) in
    rw (f, ne_eqb x (get_or c.id j 0) e) (index_row c none x (suc j) m (rw f at h)))

module _ (c : Columns) (n : ℕ) (good : checked c n ≡ answer (rows c n)) where
  pub passed : Passed c n
  passed = (check_passed c n good).0

  ids_rows : map (λ (w : Row). w.id) (rows c n) ≡ take n c.id
  ids_rows = map_rows c n (λ (w : Row). w.id) c.id passed.most (λ k h. refl)

  pub place_row : (x : ℕ) → place_of c.id n x < n → row_in x (rows c n) ≡ row_at c (place_of c.id n x)
  unfolding place_of
  place_row x h = rw ids_rows at (index_row c n x 0 n (rw ids_rows h))

  pub quota_place : (x : ℕ) → place_of c.id n x < n → quota_of x (groups_of (rows c n)) ≡ get_or c.q (place_of c.id n x) 0
  quota_place x h = quota_row x (rows c n) (ids_distinct (rows c n) passed.good.ids x) ∙ ap (λ (w : Row). w.q) (place_row x h)

  group_ids : ids_of (groups_of (rows c n)) ≡ take n c.id
  group_ids = map-map (λ (e : Entry). e.id) (λ w. group_of w) (rows c n) ∙ ids_rows

  group_quotas : map quota (groups_of (rows c n)) ≡ take n c.q
  group_quotas = let p = passed in map-map quota (λ w. group_of w) (rows c n) ∙ map_rows c n (λ w. w.q) c.q (omega (arith, p.most, p.lengths.in_q)) (λ k h. refl)

  -- the row that is found among the rows in use
  place_front : (x : ℕ) → place_of (take n c.id) n x ≡ place_of c.id n x
  unfolding place_of
  place_front x = rw (take-take n n c.id (omega arith))

  pub judged_rows : (a : Request) → judged_in (take n c.id) (take n c.q) (length c.id) a.exploded (ids_of (entries a)) (whole a.trees)
      ≡ then (accepted (length c.id) (groups_of (rows c n)) a) λ _. answer (place_of c.id n a.exploded)
  judged_rows a =
      let g : length (groups_of (rows c n)) ≡ n = groups_length (rows c n) ∙ rows_length c 0 n in
      let h = judged_is (groups_of (rows c n)) (ids_distinct (rows c n) passed.good.ids) (length c.id) a in
      rw (whole_total a.trees) (rw (group_ids, group_quotas, g, place_front a.exploded) at h)

-- the row at a place of the rows in use
module _ {u : RowsInUse} {c : Columns} {n i : ℕ} (k : Cut u c n) (h : i < n) where
  in_use : length u.id.now ≡ n
  in_use = ap length k.id ∙ length-take-le n c.id k.within

  cut_row : row_at (columns_of u) i ≡ row_at c i
  cut_row = rw (k.id, k.l, k.r, k.q, get_or-take n c.id i 0 h, get_or-take n c.l i 0 h, get_or-take n c.r i 0 h, get_or-take n c.q i 0 h)

  got : cond (ltb i (length u.id.now)) (Some (row_at (columns_of u) i)) None ≡ Some (row_at c i)
  got = rw (in_use, lt-ltb i n h, cut_row)

  pub row_there : {o : Option Row} → o ≡ cond (ltb i (length u.id.now)) (Some (row_at (columns_of u) i)) None → IsSome o
  row_there e = rw (e ∙ got)

  pub row_is : {o : Option Row} {w : Row} → o ≡ cond (ltb i (length u.id.now)) (Some (row_at (columns_of u) i)) None → o ≡ Some w → w ≡ row_at c i
  row_is e f = let g = sym f ∙ e ∙ got in cc
