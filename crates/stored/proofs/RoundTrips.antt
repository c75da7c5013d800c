-- The round trips of the calls: stored, then read; and read, then stored.
use mathlib.Core.Path.{◌≡◌, ap, sym, ◌∙◌}
use mathlib.Core.List.{List}
use Prim.Native.Nat.{ℕ, ◌≤◌}
use native.Mathlib.Omega.{arith}
use lib.ListN.{length}
use Rattle.rules.specs.Answers.{Answer, answer}
use Rattle.rules.proofs.Answers.{same_answer, then_answer}
use Rattle.rules.proofs.Buffers.{written_all, written_room, after_start}
use Rattle.table.specs.Columns.{Columns, rows, counted, afterwards}
use Rattle.table.specs.declared.Row.{Row}
use Rattle.table.specs.Check.{checked}
use Rattle.table.proofs.Rows.{rows_length, rows_put}
use Rattle.table.proofs.Lengths.{good_count, put_length, put_lengths}
use Rattle.table.proofs.Passing.{check_passed}
use Rattle.stored.specs.Stored.{table_bytes, store_answer, store_buffer, read_rows}
use Rattle.stored.specs.RoundTrips.{stored_bytes, StoreAccepted, ReadsBack, ReadAccepted, WrittenBack}
use Rattle.stored.proofs.Laws.{Read, stored_back, read_found, read_stored}

-- the bytes of rows that passed the check stand at the buffer's start
bytes_stored : (c : Columns) (count : ℕ) (buffer : List ℕ) {t : List Row} {n : ℕ} → checked c count ≡ answer t → length (table_bytes t) ≡ n → n ≤ length buffer
    → stored_bytes c count buffer n ≡ table_bytes t
unfolding store_buffer
bytes_stored c count buffer {t} e n h = rw (e, ← n) (after_start buffer (table_bytes t) (omega arith))

-- a read that finds rows answers their count, and they are the columns' rows
module _ (d : Columns) {a : Answer (List Row)} {t : List Row} {n : ℕ} (e : a ≡ answer t) (k : length t ≡ n) where
  count_is : counted a ≡ answer n
  count_is = rw (e, k)

  rows_are : rows (afterwards a d) n ≡ t
  rows_are = rw (e, ← k) (rows_put t d)

  -- and the columns pass the check
  passes : {bytes : List ℕ} → Read d bytes t → checked (afterwards a d) n ≡ answer t
  unfolding checked
  passes r =
      rw (e, ← k, put_lengths t d r.lengths r.most, put_length t d r.most, good_count (length d.id) (length t) r.some r.most, rows_put t d)
      r.sound

-- a table that is stored reads back as the same table, wherever the columns hold its count
pub reads_back : (c : Columns) (count : ℕ) (buffer : List ℕ) (n : ℕ) (d : Columns) → StoreAccepted c count buffer n d → ReadsBack c count buffer n d
unfolding store_answer
reads_back c count buffer n d s =
    let a = then_answer (checked c count) _ s.accepted in
    let same : rows c count ≡ a.0 = (check_passed c count a.1).1 in
    let w = written_room buffer 0 (table_bytes a.0) a.2 in
    let k : length a.0 ≡ count = sym (ap length same) ∙ rows_length c 0 count in
    let e = ap (read_rows d) (bytes_stored c count buffer a.1 w.1 (omega arith)) ∙ stored_back c count d s.ids_32 a.1 s.lengths (omega (arith, s.holds)) in
    record { count_back = count_is d e k; rows_back = rows_are d e k ∙ sym same }

counted_found : (a : Answer (List Row)) {n : ℕ} → counted a ≡ answer n → (t : List Row) × (a ≡ answer t) × (length t ≡ n)
counted_found a e = let f = then_answer a _ e in (f.0, f.1, same_answer f.2)

-- bytes that read in as a table are written back as those bytes
pub written_back : (d : Columns) (bytes : List ℕ) (n : ℕ) (buffer : List ℕ) → ReadAccepted d bytes n buffer → WrittenBack d bytes n buffer
unfolding store_answer
written_back d bytes n buffer s =
    let a = counted_found (read_rows d bytes) s.accepted in
    let r = read_found d bytes a.1 in
    let whole = read_stored d bytes s.are_bytes a.1 in
    let c = passes d a.1 a.2 r in
    let k : length (table_bytes a.0) ≡ length bytes = sym (ap length whole) in
    record {
      answer_back = rw c (written_all buffer 0 (table_bytes a.0) (omega (arith, s.holds)) ∙ ap answer k);
      bytes_back = bytes_stored (afterwards (read_rows d bytes) d) n buffer c k s.holds ∙ sym whole;
    }
