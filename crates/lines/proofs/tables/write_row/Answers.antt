-- `lines::tables::write_row` meets its contract: four fields, one after another.
use Rattle.lines.proofs.Laws.{row_written}
use Rattle.lines.proofs.tables.write_row.Goals as goal

pub returns : goal.returns
returns c = row_written c.args.row c.write_field.ensures c.write_field-2.ensures c.write_field-3.ensures c.write_field-4.ensures c.requires
