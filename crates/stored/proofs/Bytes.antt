-- How many bytes a stored table has.
use mathlib.Core.Path.{◌≡◌}
use mathlib.Core.List.{List}
use Prim.Native.Nat.{◌+◌, ◌*◌, ◌≤◌}
use native.Mathlib.Omega.{arith}
use lib.ListN.{length, length-append}
use Rattle.rules.proofs.Pieces.{flat_most, length_four}
use Rattle.number.specs.Number.{bytes_of}
use Rattle.number.proofs.Laws.{number_count}
use Rattle.table.specs.declared.Row.{Row}
use Rattle.stored.specs.Stored.{row_bytes, rows_bytes, table_bytes}

-- a row's bytes are those of its four numbers
pub row_count : (w : Row)
    → length (row_bytes w) ≡ length (bytes_of w.id) + length (bytes_of w.l) + length (bytes_of w.r) + length (bytes_of w.q)
unfolding row_bytes
row_count w = length_four (bytes_of w.id) (bytes_of w.l) (bytes_of w.r) (bytes_of w.q)

row_most : (w : Row) → length (row_bytes w) ≤ 20
row_most w = omega (arith, row_count w, number_count w.id, number_count w.l, number_count w.r, number_count w.q)

pub rows_most : (t : List Row) → length (rows_bytes t) ≤ 20 * length t
rows_most t = flat_most row_bytes 20 row_most t

-- the count and the rows
pub table_count : (t : List Row) → length (table_bytes t) ≡ length (bytes_of (length t)) + length (rows_bytes t)
unfolding table_bytes
table_count t = length-append (bytes_of (length t)) (rows_bytes t)
