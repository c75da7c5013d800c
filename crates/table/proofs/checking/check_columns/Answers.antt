-- `table::checking::check_columns` meets its contract: 10 for the lengths and the count, then the rows.
use Rattle.std.proofs.lemmas.Result.{err_from_is_err_and}
use Rattle.table.proofs.Passing.{refused_at_once, refused_rows, sound_answer}
use Rattle.table.proofs.checking.check_columns.Goals as goal

pub returns-in_err-rows-clause-rows : goal.returns-in_err-rows-clause-rows
returns-in_err-rows-clause-rows c =
    let p = err_from_is_err_and c.from_residual.result c.from_residual.ensures.1 in rw (p.1, p.2) (refused_at_once _ _ c.in_err-rows.ensures.rows)

pub returns-in_err-check_rows-clause-rows : goal.returns-in_err-check_rows-clause-rows
returns-in_err-check_rows-clause-rows c =
    let p = err_from_is_err_and c.from_residual-in_err-check_rows.result c.from_residual-in_err-check_rows.ensures.1 in
    rw (p.1, p.2) (refused_rows _ _ c.in_ok-rows.ensures.rows c.in_err-check_rows.ensures)

pub returns-clause-rows : goal.returns-clause-rows
returns-clause-rows c = sound_answer _ _ c.in_ok-rows.ensures.rows c.in_ok-check_rows.ensures
