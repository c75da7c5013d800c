-- `lines::tables::write_table`: 10, and then the rows in use.
use Rattle.std.proofs.Common.{◌∙◌}
use Rattle.std.proofs.lemmas.Result.{err_from_is_err_and}
use Rattle.writer.proofs.Writing.{wrote_nothing}
use Rattle.table.specs.Columns.{columns}
use Rattle.lines.proofs.Laws.{refused_table, written_table, refused_holds, written_holds, wrote_same}
use Rattle.lines.proofs.tables.write_table.Goals as goal

pub returns-in_err-rows : goal.returns-in_err-rows
returns-in_err-rows c =
    let p = err_from_is_err_and c.from_residual.result c.from_residual.ensures.1 in
    let w = c.args.writer.now in
    let k = columns c.args.id.now c.args.l.now c.args.r.now c.args.q.now in
    let e = c.in_err-rows.ensures.rows in
    let t = refused_table k c.args.count w.buffer.now w.at e in
    record { result_value = rw (p.1, p.2) t.0; buffer_value = t.1; wrote = wrote_same (refused_holds k c.args.count e) (wrote_nothing w) }

pub returns : goal.returns
returns c =
    let w = c.args.writer.now in
    let k = columns c.args.id.now c.args.l.now c.args.r.now c.args.q.now in
    let e = c.in_ok-rows.ensures.rows in
    let t = written_table k c.args.count w.buffer.now w.at e in
    let v = c.write_whole.ensures in
    record { result_value = v.result_value ∙ t.0; buffer_value = v.wrote.buffer ∙ t.1; wrote = wrote_same (written_holds k c.args.count e) v.wrote }
