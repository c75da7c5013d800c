-- `replay::begin`: the fresh pair is read, and makes one row.
use Rattle.std.proofs.Common.{refl}
use Rattle.std.proofs.lemmas.Result.{err_from_is_err_and}
use Rattle.table.specs.Columns.{columns}
use Rattle.replay.proofs.Growing.{pair_bad, fresh_bad, fresh_good}
use Rattle.replay.proofs.begin.Goals as goal

pub returns-in_err-pair : goal.returns-in_err-pair
returns-in_err-pair c =
    let a = c.args in
    let t = columns a.id.now a.l.now a.r.now a.q.now in
    let p = err_from_is_err_and c.from_residual.result c.from_residual.ensures.1 in
    rw (p.1, p.2) (pair_bad t a.log.now c.in_err-pair.ensures refl, refl)

pub returns-in_err-fresh : goal.returns-in_err-fresh
returns-in_err-fresh c =
    let a = c.args in
    let t = columns a.id.now a.l.now a.r.now a.q.now in
    let p = err_from_is_err_and c.from_residual-in_err-fresh.result c.from_residual-in_err-fresh.ensures.1 in
    let e = c.in_err-fresh.ensures in
    rw (p.1, p.2) (fresh_bad t a.log.now c.in_ok-pair.ensures refl e.q_value e.result_value refl)

pub returns : goal.returns
returns c =
    let a = c.args in
    let t = columns a.id.now a.l.now a.r.now a.q.now in
    let e = c.in_ok-fresh.ensures in
    let good = fresh_good t a.log.now c.in_ok-pair.ensures refl e.q_value e.result_value refl in
    (good.0, good.1.0, good.1.1)
