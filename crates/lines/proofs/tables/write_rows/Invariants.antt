-- `lines::tables::write_rows` meets its contract. The loop's invariant: the text of the rows that are left make the whole.
use Rattle.std.proofs.Common.{◌≡◌, ◌+◌, length}
use Rattle.table.specs.InUse.{rows_of, rows_left}
use Rattle.table.proofs.RowBytes.{Rest}
use Rattle.lines.specs.Lines.{rows_text}
use Rattle.lines.proofs.tables.write_rows.Given as goal

abbrev pub invariant-loop-row : goal.invariant-loop-row
invariant-loop-row l = record {
  rest : Rest l.initial.writer.buffer.now l.initial.writer.at (rows_text (rows_of l.rows)) l.writer.buffer.now l.writer.at (rows_text (rows_left l.row-iterator));
  place : l.writer.at + length (rows_text (rows_left l.row-iterator)) ≡ l.initial.writer.at + length (rows_text (rows_of l.rows));
  same_reference : l.writer.buffer.ghost_name ≡ l.initial.writer.buffer.ghost_name;
}
