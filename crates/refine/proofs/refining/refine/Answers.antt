-- The columns are checked; of rows that passed, the request is judged.
use Rattle.std.proofs.Common.{◌≡◌, ap, sym, subst}
use Rattle.std.proofs.lemmas.Result.{err_from_is_err_and}
use Rattle.table.specs.Check.{checked}
use Rattle.table.specs.Columns.{columns, rows}
use Rattle.table.proofs.InUse.{cut_length}
use Rattle.table.proofs.Passing.{sound, unsound}
use Rattle.rules.specs.Answers.{answer}
use Rattle.refine.specs.Refine.{refined}
use Rattle.refine.proofs.refining.refine.Goals as goal

pub returns-in_err-rows : goal.returns-in_err-rows
unfolding refined
returns-in_err-rows c =
    let p = err_from_is_err_and c.from_residual.result c.from_residual.ensures.1 in
    let u = unsound _ _ c.check_columns.ensures.rows c.in_err-rows.was in
    record { result_value = rw (p.1, p.2, u); q_value = rw u }

pub judge_request-requires-clause-good : goal.judge_request-requires-clause-good
judge_request-requires-clause-good c =
    let cols = columns c.args.id.now c.args.l.now c.args.r.now c.args.q.now in
    rw (cut_length c.in_ok-rows.ensures.cut) (sound _ _ c.check_columns.ensures.rows c.in_ok-rows.was).1
