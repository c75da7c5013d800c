-- The bytes of rows in use: how many there are, and the whole table written.
use mathlib.Core.Path.{◌≡◌}
use Prim.Native.Nat.{◌+◌, ◌*◌, ◌≤◌}
use native.Mathlib.Omega.{arith}
use lib.ListN.{length, length-append}
use Rattle.writer.specs.Writing.{Wrote, WroteAll}
use Rattle.writer.specs.declared.Writer.{Writer}
use Rattle.writer.proofs.Writing.{wrote_then}
use Rattle.number.specs.Number.{bytes_of}
use Rattle.table.specs.declared.in_use.RowsInUse.{RowsInUse}
use Rattle.table.specs.InUse.{columns_of, rows_of}
use Rattle.table.proofs.Rows.{rows_length}
use Rattle.stored.specs.Stored.{rows_bytes, table_bytes}
use Rattle.stored.proofs.Bytes.{rows_most, table_count}

module _ (u : RowsInUse) where
  pub bytes_most : length (rows_bytes (rows_of u)) ≤ 20 * 256
  bytes_most = omega (arith, rows_most (rows_of u), rows_length (columns_of u) 0 (length u.id.now), u.few)

  -- the count, and then the rows
  pub whole_count : length (table_bytes (rows_of u)) ≡ length (bytes_of (length u.id.now)) + length (rows_bytes (rows_of u))
  whole_count = rw (rows_length (columns_of u) 0 (length u.id.now)) at (table_count (rows_of u))

  pub whole_written : {a b c : Writer} → Wrote a b (bytes_of (length u.id.now)) → WroteAll b c (rows_bytes (rows_of u))
      → a.at + length (table_bytes (rows_of u)) ≤ length a.buffer.now → WroteAll a c (table_bytes (rows_of u))
  unfolding table_bytes
  whole_written w v h =
      let t = whole_count in
      let n = length-append (bytes_of (length u.id.now)) (rows_bytes (rows_of u)) in
      rw (rows_length (columns_of u) 0 (length u.id.now)) (wrote_then w (λ _. v) (omega arith))
