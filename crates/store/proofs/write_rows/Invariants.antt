-- `store::write_rows` meets its contract. The loop's invariant: the bytes of the rows that are left make the whole.
use Rattle.std.proofs.Common.{◌≡◌, ◌+◌, length}
use Rattle.table.specs.InUse.{rows_of, rows_left}
use Rattle.table.proofs.RowBytes.{Rest}
use Rattle.stored.specs.Stored.{rows_bytes}
use Rattle.store.proofs.write_rows.Given as goal

abbrev pub invariant-loop-row : goal.invariant-loop-row
invariant-loop-row l = record {
  rest : Rest l.initial.writer.buffer.now l.initial.writer.at (rows_bytes (rows_of l.rows)) l.writer.buffer.now l.writer.at (rows_bytes (rows_left l.row-iterator));
  place : l.writer.at + length (rows_bytes (rows_left l.row-iterator)) ≡ l.initial.writer.at + length (rows_bytes (rows_of l.rows));
  same_reference : l.writer.buffer.ghost_name ≡ l.initial.writer.buffer.ghost_name;
}
