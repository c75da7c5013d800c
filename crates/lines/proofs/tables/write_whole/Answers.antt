-- `lines::tables::write_whole`: the length, the heading, and then the rows.
use Rattle.std.proofs.Common.{◌≡◌, ◌+◌, length, sym, ◌∙◌, arith}
use Rattle.writer.proofs.Writing.{wrote_all, whole_fits, whole_short, whole_wrote}
use Rattle.table.specs.InUse.{rows_of}
use Rattle.lines.specs.Lines.{table_text}
use Rattle.lines.proofs.Laws.{text_most, table_count, heading_is, table_written}
use Rattle.lines.proofs.tables.write_whole.Goals as goal

pub overflow_add-whole : goal.overflow_add-whole
overflow_add-whole c = omega (arith, text_most c.args.rows)

pub returns-then-too_short : goal.returns-then-too_short
returns-then-too_short c =
    let a = c.args in
    let n : 16 + c.rows_length-whole.result ≡ length (table_text (rows_of a.rows)) = omega (arith, table_count (rows_of a.rows)) in
    let p = whole_short a.writer.now (table_text (rows_of a.rows)) n (sym c.too_short.ensures ∙ c.if-too_short.true) in
    record { result_value = p.0; wrote = p.1 }

pub write_rows-requires : goal.write_rows-requires
write_rows-requires c =
    let a = c.args in
    let k = table_count (rows_of a.rows) in
    let n : 16 + c.rows_length-whole.result ≡ length (table_text (rows_of a.rows)) = omega arith in
    let r = whole_fits a.writer.now (table_text (rows_of a.rows)) n (sym c.too_short.ensures ∙ c.if-too_short.false) in
    let w = wrote_all c.bytes.ensures.wrote (omega arith) in
    omega (arith, w.place, w.same_length)

pub returns : goal.returns
returns c =
    let a = c.args in
    let n : 16 + c.rows_length-whole.result ≡ length (table_text (rows_of a.rows)) = omega (arith, table_count (rows_of a.rows)) in
    let t = sym c.too_short.ensures ∙ c.if-too_short.false in
    let p = whole_wrote a.writer.now (table_text (rows_of a.rows)) n t (table_written (rows_of a.rows) heading_is c.bytes.ensures.wrote c.write_rows.ensures (whole_fits a.writer.now (table_text (rows_of a.rows)) n t)) in
    record { result_value = p.0; wrote = p.1 }
