use mathlib.Core.Path.{ap, sym, ◌∙◌}
use Rattle.std.proofs.lemmas.Result.{err_from_is_err_and}
use Rattle.rules.specs.Answers.{answer}
use Rattle.decide.proofs.Deciding.{read_on, read_refused, read_through}
use Rattle.decide.proofs.decide.Goals as goal

pub returns-in_err-t : goal.returns-in_err-t
returns-in_err-t c =
    let p = err_from_is_err_and c.from_residual.result c.from_residual.ensures.1 in
    rw (p.1, p.2) (read_refused _ _ _ _ _ _ c.loop-asked.invariant.asked (sym (rw (c.again.ensures, c.new.ensures) at c.in_err-t.ensures)))

pub loop-asked-smaller : goal.loop-asked-smaller
loop-asked-smaller c =
    let e = sym (rw (c.again.ensures, c.new.ensures) at c.in_ok-t.ensures) in
    (read_on _ _ _ _ _ c.loop-asked.t _ c.loop-asked.invariant (sym c.unsettled.ensures ∙ c.loop-asked-test.true) e).1

pub loop-asked-preserved : goal.loop-asked-preserved
loop-asked-preserved c =
    let e = sym (rw (c.again.ensures, c.new.ensures) at c.in_ok-t.ensures) in
    (read_on _ _ _ _ _ c.loop-asked.t _ c.loop-asked.invariant (sym c.unsettled.ensures ∙ c.loop-asked-test.true) e).0

pub returns : goal.returns
returns c =
    ap answer c.decision_of.ensures ∙ read_through _ _ _ _ _ c.loop-asked.t c.loop-asked.invariant (sym c.unsettled.ensures ∙ c.loop-asked-test.false)
