-- The stored table (RULES.md, 11): count, then id, l, r, q of each row.
use Rattle.std.specs.Prelude.{ℕ, zero, suc, cond, ltb, length}
use mathlib.Core.List.{List, [], ◌∷◌, ◌++◌, flat_map}
use Rattle.rules.specs.Answers.{Answer, answer, refused, then}
use Rattle.rules.specs.Buffers.{written, after}
use Rattle.number.specs.Number.{number_at, bytes_of}
use Rattle.table.specs.Columns.{Columns}
use Rattle.table.specs.declared.Row.{Row}
use Rattle.stored.specs.declared.RowRead.{RowRead}
use Rattle.table.specs.Check.{lengths_bad, count_bad, sound_rows, checked}

unfoldable pub row_bytes : Row → List ℕ
row_bytes w = bytes_of w.id ++ (bytes_of w.l ++ (bytes_of w.r ++ bytes_of w.q))

abbrev pub rows_bytes : List Row → List ℕ
rows_bytes t = flat_map row_bytes t

unfoldable pub table_bytes : List Row → List ℕ
table_bytes t = bytes_of (length t) ++ rows_bytes t

-- storing: 10 to 13, then 30; it answers the byte count, and bytes after it in the buffer stay
unfoldable pub store_answer : Columns → ℕ → List ℕ → Answer ℕ
store_answer c count buffer = then (checked c count) λ t. written buffer 0 (table_bytes t)

unfoldable pub store_buffer : Answer (List Row) → List ℕ → List ℕ
store_buffer (answer t) buffer = after buffer 0 (table_bytes t)
store_buffer (refused n) buffer = buffer

-- a row that stands in bytes, and the position after it
abbrev pub row_found : (id l r q next : ℕ) → Answer RowRead
row_found id l r q next = answer (record { row = record { id = id; l = l; r = r; q = q }; next = next })

unfoldable pub row_read : List ℕ → ℕ → Answer RowRead
row_read bytes at =
    then (number_at bytes at) λ id.
    then (number_at bytes id.next) λ l.
    then (number_at bytes l.next) λ r.
    then (number_at bytes r.next) λ q.
    row_found id.value l.value r.value q.value q.next

-- some rows that stand in bytes, and the position after them
pub record Rows : Type 0 where
  pub rows : List Row
  pub next : ℕ

-- a row in front of others
abbrev pub joined : Row → Answer Rows → Answer Rows
joined w others = then others λ (t : Rows). answer (record { rows = w ∷ t.rows; next = t.next })

-- `count` rows from a position on
unfoldable pub rows_at : ℕ → List ℕ → ℕ → Answer Rows
rows_at zero bytes at = answer (record { rows = []; next = at })
rows_at (suc count) bytes at = then (row_read bytes at) λ (w : RowRead). joined w.row (rows_at count bytes w.next)

-- `count` rows from a position to the bytes' end: 6 where bytes remain, then 11, 12, 13
unfoldable pub rows_to_end : ℕ → List ℕ → ℕ → Answer (List Row)
rows_to_end count bytes at =
    then (rows_at count bytes at) λ t. cond (ltb t.next (length bytes)) (refused 6) (sound_rows t.rows)

-- reading: 10 for lengths, the count, 10 for the count, rows, 6, then 11, 12, 13
unfoldable pub read_rows : Columns → List ℕ → Answer (List Row)
read_rows c bytes =
    cond (lengths_bad c) (refused 10)
    (then (number_at bytes 0) λ count.
    cond (count_bad (length c.id) count.value) (refused 10) (rows_to_end count.value bytes count.next))
