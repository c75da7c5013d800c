-- `load::reading::rows_to_end` meets its contract: the rows, then 6.
use Rattle.std.proofs.lemmas.Result.{err_from_is_err_and}
use borrow.Author.Tests.{lt-ltb, le-ltb}
use Rattle.stored.specs.Stored.{rows_to_end}
use Rattle.load.proofs.reading.rows_to_end.Goals as goal

pub returns-in_err-end : goal.returns-in_err-end
unfolding rows_to_end
returns-in_err-end c =
    let p = err_from_is_err_and c.from_residual.result c.from_residual.ensures.1 in rw (p.1, p.2, ← c.in_err-end.ensures)

pub returns-then-end-bytes : goal.returns-then-end-bytes
unfolding rows_to_end
returns-then-end-bytes c = rw (← c.in_ok-end.ensures, lt-ltb _ _ c.if-end-bytes.true)

pub returns : goal.returns
unfolding rows_to_end
returns c = rw (← c.in_ok-end.ensures, le-ltb _ _ c.if-end-bytes.false)
