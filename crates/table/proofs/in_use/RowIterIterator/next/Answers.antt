use Rattle.std.proofs.Common.{◌≡◌, length, sym, ap, ◌∙◌, rules, []}
use Rattle.table.specs.InUse.{rows_left}
use Rattle.table.proofs.InUse.{next_none, next_some}
use Rattle.table.proofs.in_use.RowIterIterator.next.Goals as goal

pub returns-in_err-row-clause-steps : goal.returns-in_err-row-clause-steps
returns-in_err-row-clause-steps c =
    let e : rows_left c.args.self.now ≡ [] = next_none c.args.self.now (sym c.get.ensures ∙ c.in_err-row.was) in
    rw c.from_residual.ensures (e, e)

pub returns-clause-steps : goal.returns-clause-steps
returns-clause-steps c = next_some c.args.self.now (sym c.get.ensures ∙ c.in_ok-row.was)

pub returns-clause-goes : goal.returns-clause-goes
returns-clause-goes c =
    let e = ap length (next_some c.args.self.now (sym c.get.ensures ∙ c.in_ok-row.was)) in search rules
