-- What the iterator gives is the next of the list's items.
use mathlib.Core.Path.{ap, sym}
use native.Mathlib.Omega.{arith}
use lib.ListN.{length}
use Rattle.grant.proofs.Items.{items_done, item_given, item_refused}
use Rattle.grant.proofs.GrantsIterator.next.Goals as goal

pub returns-then-self-clause-steps : goal.returns-then-self-clause-steps
returns-then-self-clause-steps c = let e = items_done c.args.self.now.bytes.now c.args.self.now.at c.if-self.true in (e, e)

pub returns-in-Ok-clause-steps : goal.returns-in-Ok-clause-steps
returns-in-Ok-clause-steps c = item_given c.args.self.now.bytes.now c.args.self.now.at c.if-self.false (sym c.in-Ok.ensures)

pub returns-in-Ok-clause-goes : goal.returns-in-Ok-clause-goes
returns-in-Ok-clause-goes c =
    let e = item_given c.args.self.now.bytes.now c.args.self.now.at c.if-self.false (sym c.in-Ok.ensures) in
    record { on = λ _. (tt, tt, omega (arith, ap length e)); keeps = tt; rests = λ _. tt }

pub returns-in-Err-clause-steps : goal.returns-in-Err-clause-steps
returns-in-Err-clause-steps c = item_refused c.args.self.now.bytes.now c.args.self.now.at c.if-self.false (sym c.in-Err.ensures)

pub returns-in-Err-clause-goes : goal.returns-in-Err-clause-goes
returns-in-Err-clause-goes c =
    let e = item_refused c.args.self.now.bytes.now c.args.self.now.at c.if-self.false (sym c.in-Err.ensures) in
    record { on = λ _. (tt, tt, omega (arith, ap length e)); keeps = tt; rests = λ _. tt }
