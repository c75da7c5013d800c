-- Laws of the rows in use.
use mathlib.Core.Path.{◌≡◌, refl, ap, sym, ◌∙◌}
use mathlib.Core.Bool.{false}
use mathlib.Core.List.{List, [], ◌∷◌, map}
use Prim.Native.Nat.{ℕ, zero, suc, ◌+◌, ◌-◌, ◌≤◌, ◌<◌}
use native.Mathlib.Omega.{arith}
use lib.ListN.{length, take, drop, get_or}
use lib.Seq.{drop-cons}
use Rattle.std.proofs.lemmas.List.{length-take-le, get_or-take, take_all}
use Rattle.table.specs.Columns.{Columns, columns, row_at, rows_from, rows, overlay, put}
use Rattle.table.specs.declared.Row.{Row}
use Rattle.table.specs.Inside.Held.{Holds}
use Rattle.table.specs.InUse.{columns_of, rows_of, rows_left, Cut}
use Rattle.table.specs.declared.in_use.RowsInUse.{RowsInUse}
use Rattle.table.specs.declared.in_use.RowIter.{RowIter}
use Rattle.std.specs.Prelude.{cond, ltb, Some, None}
use Rattle.rules.proofs.Cases.{by_lt}
use borrow.Author.Tests.{lt-ltb, le-ltb}
use Rattle.table.specs.Check.{lengths_bad, count_bad}
use Rattle.table.proofs.Lengths.{lengths_good, count_good, holds_count}

-- one row more is left
pub left_more : (c : Columns) (i n : ℕ) → i < n → rows_from c i (n - i) ≡ row_at c i ∷ rows_from c (i + 1) (n - (i + 1))
unfolding rows_from
left_more c i n h = let e : n - i ≡ suc (n - (i + 1)) = omega arith in let f : suc i ≡ i + 1 = omega arith in rw (e, ← f)

pub left_none : (c : Columns) (i n : ℕ) → n ≤ i → rows_from c i (n - i) ≡ []
unfolding rows_from
left_none c i n h = let e : n - i ≡ 0 = omega arith in rw e

-- the columns that a check of the lengths and of the count lets through hold the rows
pub held : (c : Columns) (count : ℕ) → lengths_bad c ≡ false → count_bad (length c.id) count ≡ false → Holds c count
held c count e f = holds_count (lengths_good c e) (count_good _ _ f).1

taken_from : (c : Columns) (count i n : ℕ) → i + n ≤ count
    → rows_from (columns (take count c.id) (take count c.l) (take count c.r) (take count c.q)) i n ≡ rows_from c i n
unfolding rows_from
taken_from c count i zero h = refl
taken_from c count i (suc n) h =
    let k : i < count = omega arith in
    rw (get_or-take count c.id i 0 k, get_or-take count c.l i 0 k, get_or-take count c.r i 0 k, get_or-take count c.q i 0 k)
    (ap (λ t. row_at c i ∷ t) (taken_from c count (suc i) n (omega arith)))

-- columns that are cut to the count have the same rows in use
pub taken_rows : (c : Columns) (count : ℕ) → count ≤ length c.id
    → rows (columns (take count c.id) (take count c.l) (take count c.r) (take count c.q)) (length (take count c.id)) ≡ rows c count
taken_rows c count h = rw (length-take-le count c.id h) (taken_from c count 0 count (omega arith))

-- what an iterator's lookup says of the rows that it has left
module _ (i : RowIter) where
  pub next_none : cond (ltb i.at (length i.rows.id.now)) (Some (row_at (columns_of i.rows) i.at)) None ≡ None → rows_left i ≡ []
  next_none e =
      by_lt i.at (length i.rows.id.now)
      (λ h. let f : Some (row_at (columns_of i.rows) i.at) ≡ None = rw (lt-ltb _ _ h) at e in absurd (cc))
      (λ h. left_none _ _ _ h)

  pub next_some : {row : Row} → cond (ltb i.at (length i.rows.id.now)) (Some (row_at (columns_of i.rows) i.at)) None ≡ Some row
      → rows_left i ≡ row ∷ rows_left (record { rows = i.rows; at = i.at + 1 })
  next_some {row} e =
      by_lt i.at (length i.rows.id.now)
      (λ h.
      let f : Some (row_at (columns_of i.rows) i.at) ≡ Some row = rw (lt-ltb _ _ h) at e in
      let g : row_at (columns_of i.rows) i.at ≡ row = cc in
      rw (← g) (left_more (columns_of i.rows) i.at (length i.rows.id.now) h))
      (λ h. let f : None ≡ Some row = rw (le-ltb _ _ h) at e in absurd (cc))

-- ## Each column's numbers are those of the rows

-- a column from row i on is its value in row i, and the column from the next row on
pub column_next : (s : List ℕ) (i n : ℕ) → i + suc n ≤ length s → take (suc n) (drop i s) ≡ get_or s i 0 ∷ take n (drop (suc i) s)
column_next s i n h = let k : suc i ≤ length s = omega arith in rw (drop-cons s i 0)

pub column_rows : (f : Row → ℕ) (s : List ℕ) (c : Columns) → ((i : ℕ) → f (row_at c i) ≡ get_or s i 0) → (i n : ℕ) → i + n ≤ length s
    → take n (drop i s) ≡ map f (rows_from c i n)
unfolding rows_from
column_rows f s c e i zero h = refl
column_rows f s c e i (suc n) h =
    rw (column_next s i n h, e i) (ap (λ (t : List ℕ). get_or s i 0 ∷ t) (column_rows f s c e (suc i) n (omega arith)))

module _ (u : RowsInUse) where
  whole_column : (f : Row → ℕ) (s : List ℕ) → ((i : ℕ) → f (row_at (columns_of u) i) ≡ get_or s i 0) → length s ≡ length u.id.now → map f (rows_of u) ≡ s
  whole_column f s e h = sym (column_rows f s (columns_of u) e 0 (length u.id.now) (omega arith)) ∙ take_all (length u.id.now) s (omega arith)

  -- rows in use that are put into columns lie over each of them
  pub put_in_use : (c : Columns) → put (rows_of u) c ≡ columns (overlay u.id.now c.id) (overlay u.l.now c.l) (overlay u.r.now c.r) (overlay u.q.now c.q)
  unfolding put
  put_in_use c =
      let i = whole_column (λ w. w.id) u.id.now (λ i. refl) refl in
      let l = whole_column (λ w. w.l) u.l.now (λ i. refl) u.same_l in
      let r = whole_column (λ w. w.r) u.r.now (λ i. refl) u.same_r in
      let q = whole_column (λ w. w.q) u.q.now (λ i. refl) u.same_q in
      rw (i, l, r, q)

-- the rows in use are as many as the count
pub cut_length : {u : RowsInUse} {c : Columns} {count : ℕ} → Cut u c count → length u.id.now ≡ count
cut_length {u} {c} {count} k = rw k.id (length-take-le count c.id k.within)
