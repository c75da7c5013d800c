use mathlib.Core.Path.{sym, ◌∙◌}
use Rattle.std.proofs.lemmas.Result.{err_from_is_err_and}
use Rattle.decide.proofs.Outcome.{outcome_ends, outcome_refused, outcome_applies, outcome_other, outcome_whole}
use Rattle.decide.proofs.Asked.read_list.Goals as goal

pub loop-item-init : goal.loop-item-init
loop-item-init c = rw (c.into_iter-item-iterator.ensures.into_iter_gives, c.new-item-items.ensures) (outcome_whole _ _ _ _ _ _)

pub returns-in_err-grant : goal.returns-in_err-grant
returns-in_err-grant c =
    let p = err_from_is_err_and c.from_residual.result c.from_residual.ensures.1 in
    rw (p.1, p.2) (sym (outcome_refused _ _ _ _ c.loop-item.t (rw c.in_err-grant.was at c.in-Some.ensures.steps)) ∙ c.loop-item.invariant)

pub loop-item-preserved-then-granted : goal.loop-item-preserved-then-granted
loop-item-preserved-then-granted c =
    rw (c.count_in-t.ensures, c.from.ensures)
    (sym (outcome_applies _ _ _ _ c.loop-item.t (rw c.in_ok-grant.was at c.in-Some.ensures.steps) (sym c.granted.ensures ∙ c.if-granted.true)) ∙ c.loop-item.invariant)

pub loop-item-preserved : goal.loop-item-preserved
loop-item-preserved c =
    sym (outcome_other _ _ _ _ c.loop-item.t (rw c.in_ok-grant.was at c.in-Some.ensures.steps) (sym c.granted.ensures ∙ c.if-granted.false)) ∙ c.loop-item.invariant

pub returns : goal.returns
returns c = sym (outcome_ends _ _ _ _ c.loop-item.t c.in-None.ensures.steps.0) ∙ c.loop-item.invariant
