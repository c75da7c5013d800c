-- Demand 2's round trips, of the calls (RULES.md, 11): a stored table reads back as the same table, and bytes that read in are written back as those bytes.
-- `reads_back` and `written_back` of proofs/RoundTrips.antt prove them.
use Rattle.std.specs.Prelude.{ℕ, ◌≤◌, ◌≡◌, false, List, length, get_or, take}
use Rattle.rules.specs.Answers.{answer}
use Rattle.rules.specs.Limits.{greatest}
use Rattle.rules.specs.Buffers.{Bytes}
use Rattle.table.specs.Columns.{Columns, rows, counted, afterwards}
use Rattle.table.specs.Check.{lengths_bad, checked}
use Rattle.stored.specs.Stored.{store_answer, store_buffer, read_rows}

-- the first n bytes of the buffer after store
abbrev pub stored_bytes : Columns → ℕ → List ℕ → ℕ → List ℕ
stored_bytes c count buffer n = take n (store_buffer (checked c count) buffer)

-- the columns after read
abbrev pub columns_read : Columns → List ℕ → Columns
columns_read d bytes = afterwards (read_rows d bytes) d

-- store answered n, and columns d of good lengths hold the count. An id is a 32-bit number
pub record StoreAccepted (c : Columns) (count : ℕ) (buffer : List ℕ) (n : ℕ) (d : Columns) : Type 0 where
  pub accepted : store_answer c count buffer ≡ answer n
  pub ids_32 : (i : ℕ) → get_or c.id i 0 ≤ greatest
  pub lengths : lengths_bad d ≡ false
  pub holds : count ≤ length d.id

-- reading those n bytes into d answers the count, and the rows are the same
pub record ReadsBack (c : Columns) (count : ℕ) (buffer : List ℕ) (n : ℕ) (d : Columns) : Type 0 where
  pub count_back : counted (read_rows d (stored_bytes c count buffer n)) ≡ answer count
  pub rows_back : rows (columns_read d (stored_bytes c count buffer n)) count ≡ rows c count

-- read answered n, and a buffer is as long as the bytes that were read
pub record ReadAccepted (d : Columns) (bytes : List ℕ) (n : ℕ) (buffer : List ℕ) : Type 0 where
  pub accepted : counted (read_rows d bytes) ≡ answer n
  pub are_bytes : Bytes bytes
  pub holds : length bytes ≤ length buffer

-- storing the columns after it answers the byte count, and those bytes stand at the buffer's start
pub record WrittenBack (d : Columns) (bytes : List ℕ) (n : ℕ) (buffer : List ℕ) : Type 0 where
  pub answer_back : store_answer (columns_read d bytes) n buffer ≡ answer (length bytes)
  pub bytes_back : stored_bytes (columns_read d bytes) n buffer (length bytes) ≡ bytes
