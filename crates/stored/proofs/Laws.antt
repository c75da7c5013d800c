-- The laws of the stored table: a table that is stored reads back as that table, and bytes that read in as a table are that table's bytes.
use mathlib.Core.Path.{◌≡◌, refl, ap, sym, ◌∙◌}
use mathlib.Core.Bool.{false}
use mathlib.Core.List.{List, [], ◌∷◌, ◌++◌, flat_map, append_assoc, append-nil}
use Prim.Native.Nat.{ℕ, zero, suc, ◌+◌, ◌-◌, ◌≤◌}
use native.Mathlib.Omega.{arith}
use lib.Dec.{eqb, ltb}
use lib.ListN.{length, get_or, length-append, drop_of_length-le}
use borrow.Author.Tests.{eqb-false, ltb-false, le-ltb}
use Rattle.rules.specs.Answers.{Answer, answer, then}
use Rattle.rules.specs.Limits.{greatest}
use Rattle.rules.specs.Buffers.{Bytes}
use Rattle.rules.proofs.Answers.{same_answer, peel, then_answer}
use Rattle.rules.proofs.Bools.{or_none}
use Rattle.number.specs.Number.{found, number_at, bytes_of}
use Rattle.number.proofs.Laws.{number_back}
use Rattle.number.proofs.Runs.{run_back, Stands, both_stand, one_stands, run_stands}
use Rattle.table.specs.Columns.{Columns, row_at, rows_from, rows}
use Rattle.table.specs.declared.Row.{Row}
use Rattle.table.specs.Check.{some_row, lengths_bad, count_bad, value_bad, sound_rows, checked}
use Rattle.stored.specs.Stored.{row_bytes, rows_bytes, table_bytes, row_found, row_read, Rows, joined, rows_at, rows_to_end, read_rows}
use Rattle.stored.specs.declared.RowRead.{RowRead}
use Rattle.table.proofs.Rows.{rows_length}
use Rattle.table.proofs.Lengths.{lengths_good, count_good, good_count}
use Rattle.table.proofs.Passing.{good_rows, rows_good, check_passed}

-- ## Stored, then read

-- a row whose values are numbers that bytes can hold
record Fits (w : Row) : Type 0 where
  in_id : w.id ≤ greatest
  in_l : w.l ≤ greatest
  in_r : w.r ≤ greatest
  in_q : w.q ≤ greatest

abbrev AllFit : List Row → Type 0
AllFit [] = Unit {0}
AllFit (w ∷ t) = Fits w × AllFit t

-- a row's bytes are those of four numbers, one after another
row_run : (w : Row) → flat_map bytes_of (w.id ∷ w.l ∷ w.r ∷ w.q ∷ []) ≡ row_bytes w
unfolding row_bytes flat_map
row_run w = simp append-nil

row_back : (w : Row) (before after : List ℕ) → Fits w
    → row_read (before ++ (row_bytes w ++ after)) (length before) ≡ row_found w.id w.l w.r w.q (length before + length (row_bytes w))
unfolding row_read
row_back w before after f =
    let a = rw row_run at (run_back (w.id ∷ w.l ∷ w.r ∷ w.q ∷ []) before after (f.in_id, (f.in_l, (f.in_r, (f.in_q, tt))))) in
    rw (a.1, a.2.1, a.2.2.1, a.2.2.2.1, a.2.2.2.2)

pub rows_suc : (n : ℕ) (bytes : List ℕ) (at : ℕ)
    → rows_at (suc n) bytes at ≡ then (row_read bytes at) (λ (w : RowRead). joined w.row (rows_at n bytes w.next))
unfolding rows_at
rows_suc n bytes at = refl

-- the rows, in the middle of longer bytes
rows_back : (t : List Row) (before after : List ℕ) → AllFit t
    → rows_at (length t) (before ++ (rows_bytes t ++ after)) (length before) ≡ answer (record { rows = t; next = length before + length (rows_bytes t) })
unfolding rows_at flat_map
rows_back [] before after f =
    let e : length before ≡ length before + 0 = omega arith in
    ap (λ (n : ℕ). answer (record { rows = []; next = n })) e
rows_back (w ∷ t) before after f =
    let row = row_bytes w in
    let rest = rows_bytes t in
    let n : length before + length row + length rest ≡ length before + length (row ++ rest) = omega (arith, length-append row rest) in
    let one = row_back w before (rest ++ after) f.0 in
    let others = simp (append_assoc, length-append) at (rows_back t (before ++ row) after f.1) in
    rw (append_assoc row rest after)
    (rows_suc (length t) (before ++ (row ++ (rest ++ after))) (length before)
    ∙ ap (λ (r : Answer RowRead). then r (λ (v : RowRead). joined v.row (rows_at (length t) (before ++ (row ++ (rest ++ after))) v.next))) one
    ∙ ap (joined w) others
    ∙ ap (λ (k : ℕ). answer (record { rows = w ∷ t; next = k })) n)

-- rows that pass 11 fit, where their ids do
row_fits : (w : Row) → w.id ≤ greatest → value_bad w ≡ false → Fits w
unfolding value_bad
row_fits w h e =
    let a = or_none (eqb w.id 0) _ e in
    let b = or_none (eqb w.l 0) _ a.1 in
    let d = or_none (eqb w.r 0) _ b.1 in
    let g = or_none (eqb w.q 0) _ d.1 in
    let k = or_none (ltb greatest (w.l + w.q - 1)) _ g.1 in
    let l_some : w.l ≡ 0 → ⊥ = eqb-false w.l 0 b.0 in
    let r_some : w.r ≡ 0 → ⊥ = eqb-false w.r 0 d.0 in
    let q_some : w.q ≡ 0 → ⊥ = eqb-false w.q 0 g.0 in
    let l_end : w.l + w.q - 1 ≤ greatest = ltb-false _ _ k.0 in
    let r_end : w.r + w.q - 1 ≤ greatest = ltb-false _ _ k.1 in
    record { in_id = h; in_l = omega arith; in_r = omega arith; in_q = omega arith }

rows_fit : (c : Columns) → ((i : ℕ) → get_or c.id i 0 ≤ greatest) → (i n : ℕ) → some_row value_bad (rows_from c i n) ≡ false → AllFit (rows_from c i n)
unfolding rows_from some_row
rows_fit c h i zero e = tt
rows_fit c h i (suc n) e =
    let a = or_none (value_bad (row_at c i)) _ e in
    (row_fits (row_at c i) (h i) a.0, rows_fit c h (suc i) n a.1)

table_back : (t : List Row) (d : Columns) → AllFit t → sound_rows t ≡ answer t → 1 ≤ length t → lengths_bad d ≡ false → length t ≤ length d.id
    → read_rows d (table_bytes t) ≡ answer t
unfolding table_bytes read_rows rows_to_end
table_back t d f sound some good most =
    let l = lengths_good d good in
    let first = bytes_of (length t) in
    let count = number_back (length t) [] (rows_bytes t) (omega arith) in
    let all = simp append-nil at (rows_back t first [] f) in
    let n = length-append first (rows_bytes t) in
    let z : 0 + length first ≡ length first = omega arith in
    let ends : ltb (length first + length (rows_bytes t)) (length (first ++ rows_bytes t)) ≡ false =
    le-ltb (length first + length (rows_bytes t)) (length (first ++ rows_bytes t)) (omega arith) in
    rw (good, count, good_count _ _ some most, z, all, ends) sound

-- a table that is stored reads back as the same table, wherever the columns hold its count
pub stored_back : (c : Columns) (count : ℕ) {t : List Row} (d : Columns) → ((i : ℕ) → get_or c.id i 0 ≤ greatest)
    → checked c count ≡ answer t → lengths_bad d ≡ false → length t ≤ length d.id → read_rows d (table_bytes t) ≡ answer t
stored_back c count {t} d h e good most =
    let p = check_passed c count e in
    let same : rows c count ≡ t = p.1 in
    let fit = rows_fit c h 0 count p.0.good.values in
    let n = rows_length c 0 count in
    rw same at
    (table_back (rows c count) d fit (rows_good (rows c count) p.0.good) (omega (arith, p.0.some)) good (rw same most))

-- ## Read, then stored

-- as many rows are read as the count says
rows_count : (n : ℕ) (bytes : List ℕ) (at : ℕ) (s : Rows) → rows_at n bytes at ≡ answer s → length s.rows ≡ n
unfolding rows_at
rows_count zero bytes at s e = rw (← (same_answer e))
rows_count (suc n) bytes at s e =
    let a = then_answer (row_read bytes at) _ (sym (rows_suc n bytes at) ∙ e) in
    let b = then_answer (rows_at n bytes a.0.next) _ a.2 in
    rw (← (same_answer b.2)) (ap suc (rows_count n bytes a.0.next b.0 b.1))

row_there : (bytes : List ℕ) (at : ℕ) (w : RowRead) → Bytes bytes → row_read bytes at ≡ answer w → Stands bytes at w.next (row_bytes w.row)
unfolding row_read
row_there bytes at w bs e =
    let a = then_answer (number_at bytes at) _ e in
    let b = then_answer (number_at bytes a.0.next) _ a.2 in
    let d = then_answer (number_at bytes b.0.next) _ b.2 in
    let g = then_answer (number_at bytes d.0.next) _ d.2 in
    rw (← (same_answer g.2), ← row_run)
    (run_stands at (a.0.value ∷ b.0.value ∷ d.0.value ∷ g.0.value ∷ []) bs (a.0.next, a.1, (b.0.next, b.1, (d.0.next, d.1, (g.0.next, g.1, refl)))))

rows_there : (n : ℕ) (bytes : List ℕ) (at : ℕ) (s : Rows) → Bytes bytes → rows_at n bytes at ≡ answer s → Stands bytes at s.next (rows_bytes s.rows)
unfolding rows_at flat_map
rows_there zero bytes at s bs e = rw (← (same_answer e)) (record { ends = omega arith; stands = refl })
rows_there (suc n) bytes at s bs e =
    let a = then_answer (row_read bytes at) _ (sym (rows_suc n bytes at) ∙ e) in
    let b = then_answer (rows_at n bytes a.0.next) _ a.2 in
    rw (← (same_answer b.2))
    (both_stand (row_there bytes at a.0 bs a.1) (rows_there n bytes a.0.next b.0 bs b.1))

-- what a read that is answered found: the count, as many rows up to the bytes' end, and that they pass the check
pub record Read (d : Columns) (bytes : List ℕ) (t : List Row) : Type 0 where
  pub lengths : lengths_bad d ≡ false
  pub some : 1 ≤ length t
  pub most : length t ≤ length d.id
  pub sound : sound_rows t ≡ answer t
  pub next : ℕ
  pub count : number_at bytes 0 ≡ found (length t) next
  pub end : ℕ
  pub rows : rows_at (length t) bytes next ≡ answer (record { rows = t; next = end })
  pub ends : length bytes ≤ end

pub read_found : (d : Columns) (bytes : List ℕ) {t : List Row} → read_rows d bytes ≡ answer t → Read d bytes t
unfolding read_rows rows_to_end
read_found d bytes {t} e =
    let a = peel (lengths_bad d) _ _ e in
    let n = then_answer (number_at bytes 0) _ a.1 in
    let b = peel (count_bad (length d.id) n.0.value) _ _ n.2 in
    let k = count_good _ _ b.0 in
    let s = then_answer (rows_at n.0.value bytes n.0.next) _ b.1 in
    let g = peel (ltb s.0.next (length bytes)) _ _ s.2 in
    let r = good_rows s.0.rows g.1 in
    let m = rows_count n.0.value bytes n.0.next s.0 s.1 in
    rw (← r.1)
    (record {
      lengths = a.0;
      some = omega (arith, k.0, m);
      most = omega (arith, k.1, m);
      sound = rows_good s.0.rows r.0;
      next = n.0.next;
      count = rw m n.1;
      end = s.0.next;
      rows = rw m s.1;
      ends = ltb-false s.0.next (length bytes) g.0;
    })

-- bytes that read in as a table are written back as those bytes exactly
pub read_stored : (d : Columns) (bytes : List ℕ) {t : List Row} → Bytes bytes → read_rows d bytes ≡ answer t → bytes ≡ table_bytes t
unfolding table_bytes
read_stored d bytes {t} bs e =
    let r = read_found d bytes e in
    let all = both_stand (one_stands bs r.count) (rows_there (length t) bytes r.next _ bs r.rows) in
    all.stands ∙ ap (λ (u : List ℕ). (bytes_of (length t) ++ rows_bytes t) ++ u) (drop_of_length-le bytes r.ends) ∙ append-nil (bytes_of (length t) ++ rows_bytes t)
