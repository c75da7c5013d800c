use Rattle.std.proofs.Common.{rules}
use Rattle.std.proofs.lemmas.Result.{err_from_is_err_and}
use Rattle.load.proofs.Filling.{work_holds, fill_begins, fill_again, fill_stops, fill_ends}
use Rattle.load.proofs.reading.rows_at.Goals as goal

pub loop-i-init : goal.loop-i-init
loop-i-init c = fill_begins _ _ _ _ (work_holds (search rules) (search rules) (search rules) (search rules) c.requires)

pub returns-in_err-read : goal.returns-in_err-read
returns-in_err-read c =
    let p = err_from_is_err_and c.from_residual.result c.from_residual.ensures.1 in
    rw (p.1, p.2) (fill_stops c.loop-i.invariant c.loop-i-test.true c.in_err-read.ensures)

pub loop-i-preserved : goal.loop-i-preserved
loop-i-preserved c = rw c.set.ensures (fill_again c.loop-i.invariant c.loop-i-test.true c.in_ok-read.ensures)

pub returns : goal.returns
returns c = fill_ends c.loop-i.invariant c.loop-i-test.false
