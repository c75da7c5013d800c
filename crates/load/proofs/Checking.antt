-- What the check of work columns says of the rows in them, and of the table that was read.
use mathlib.Core.Path.{◌≡◌, refl, ap, sym, ◌∙◌}
use mathlib.Core.Bool.{true, false}
use mathlib.Core.List.{List}
use Prim.Native.Nat.{ℕ, ◌≤◌}
use native.Mathlib.Omega.{arith}
use lib.ListN.{length, take}
use Rattle.std.proofs.lemmas.List.{length-take}
use Rattle.rules.specs.Capacities.{row_capacity}
use Rattle.rules.specs.Answers.{Answer, answer, refused, then, given}
use Rattle.number.specs.Number.{number_at}
use Rattle.number.specs.declared.Number.{Number}
use Rattle.table.specs.Columns.{Columns, columns, rows, overlay, counted, afterwards}
use Rattle.table.specs.declared.Row.{Row}
use Rattle.load.specs.Work.{rows_checked}
use Rattle.table.specs.declared.in_use.RowsInUse.{RowsInUse}
use Rattle.table.specs.InUse.{columns_of, rows_of, Cut}
use Rattle.table.specs.Check.{lengths_bad, count_bad, sound_rows, checked}
use Rattle.table.proofs.Lengths.{lengths_good, count_good, good_count}
use Rattle.table.proofs.Rows.{rows_length}
use Rattle.table.proofs.InUse.{put_in_use, cut_length}
use Rattle.table.proofs.Passing.{good_rows}
use Rattle.stored.specs.Stored.{rows_to_end, read_rows}

-- work columns pass 10
pub work_checked : (c : Columns) {count : ℕ} → length c.id ≡ row_capacity → length c.l ≡ row_capacity → length c.r ≡ row_capacity → length c.q ≡ row_capacity
    → 1 ≤ count → count ≤ row_capacity → checked c count ≡ sound_rows (rows c count)
unfolding checked lengths_bad
work_checked c {count} hi hl hr hq some most = rw (hi, hl, hr, hq, good_count row_capacity count some most)

-- and what the check finds of them, its verdict alone, is what their rows come to
pub rows_checked_lem : (c : Columns) {count : ℕ} → length c.id ≡ row_capacity → length c.l ≡ row_capacity → length c.r ≡ row_capacity → length c.q ≡ row_capacity
    → 1 ≤ count → count ≤ row_capacity → (v : Answer (Unit {0})) → v ≡ given (checked c count) → rows_checked v c count ≡ sound_rows (rows c count)
rows_checked_lem c {count} hi hl hr hq some most v e =
    let w = work_checked c hi hl hr hq some most in
    ap (λ a. rows_checked a c count) (e ∙ ap given w) ∙ go (sound_rows (rows c count)) refl
  where
    go : (a : Answer (List Row)) → sound_rows (rows c count) ≡ a → then (given a) (λ _. answer (rows c count)) ≡ a
    go (answer t) h = ap answer (good_rows (rows c count) h).1
    go (refused n) h = refl

-- ## Each step of a read

module _ (d : Columns) (bytes : List ℕ) where
  -- a refused read leaves the columns
  pub not_read : {n : ℕ} → refused n ≡ read_rows d bytes → (refused n ≡ counted (read_rows d bytes)) × (d ≡ afterwards (read_rows d bytes) d)
  not_read e = (ap counted e, ap (λ a. afterwards a d) e)

  pub bad_lengths : lengths_bad d ≡ true → refused 10 ≡ read_rows d bytes
  unfolding read_rows
  bad_lengths e = rw e

  module _ (good : lengths_bad d ≡ false) where
    pub no_count : {n : ℕ} → refused n ≡ number_at bytes 0 → refused n ≡ read_rows d bytes
    unfolding read_rows
    no_count e = rw (good, ← e)

    module _ {first : Number} (e : answer first ≡ number_at bytes 0) where
      pub bad_count : count_bad (length d.id) first.value ≡ true → refused 10 ≡ read_rows d bytes
      unfolding read_rows
      bad_count f = rw (good, ← e, f)

      module _ (fits : count_bad (length d.id) first.value ≡ false) where
        pub rows_on : rows_to_end first.value bytes first.next ≡ read_rows d bytes
        unfolding read_rows
        rows_on = rw (good, ← e, fits)

        pub count_fits : (1 ≤ first.value) × (first.value ≤ length d.id) × (first.value ≤ row_capacity)
        count_fits =
            let l = lengths_good d good in
            let k = count_good (length d.id) first.value fits in
            (k.0, k.1, omega (arith, l.most, k.1))

-- rows in use that were read are the columns' rows, as far as there are
pub were_read : (u : RowsInUse) (d : Columns) (bytes : List ℕ) → answer (rows_of u) ≡ read_rows d bytes
    → (answer (length u.id.now) ≡ counted (read_rows d bytes))
    × (columns (overlay u.id.now d.id) (overlay u.l.now d.l) (overlay u.r.now d.r) (overlay u.q.now d.q) ≡ afterwards (read_rows d bytes) d)
were_read u d bytes e =
    let n : length (rows_of u) ≡ length u.id.now = rows_length (columns_of u) 0 (length u.id.now) in
    (ap answer (sym n) ∙ ap counted e, sym (put_in_use u d) ∙ ap (λ a. afterwards a d) e)

-- the front rows of work columns fit into columns that have so many
pub fronts_in : (d w : Columns) {count : ℕ} → lengths_bad d ≡ false → count ≤ length d.id
    → (length (take count w.id) ≤ length d.id) × (length (take count w.l) ≤ length d.l) × (length (take count w.r) ≤ length d.r) × (length (take count w.q) ≤ length d.q)
fronts_in d w {count} good fits =
    let l = lengths_good d good in
    (omega (arith, length-take count w.id), omega (arith, length-take count w.l, l.in_l), omega (arith, length-take count w.r, l.in_r), omega (arith, length-take count w.q, l.in_q))

-- rows in use fit into columns that have the count
pub room_in : (u : RowsInUse) (d : Columns) {w : Columns} {count : ℕ} → lengths_bad d ≡ false → count ≤ length d.id → Cut u w count
    → (length u.id.now ≤ length d.id) × (length u.l.now ≤ length d.l) × (length u.r.now ≤ length d.r) × (length u.q.now ≤ length d.q)
room_in u d good fits k =
    let l = lengths_good d good in
    let n = cut_length k in
    (omega (arith, l.in_l), omega (arith, u.same_l, l.in_l), omega (arith, u.same_r, l.in_r), omega (arith, u.same_q, l.in_q))
