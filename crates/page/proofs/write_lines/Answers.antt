use mathlib.Core.Path.{sym, ◌∙◌}
use native.Mathlib.Omega.{arith}
use Rattle.page.proofs.Writing.{begins, full, ends, not_refused, without, with_line}
use Rattle.page.proofs.write_lines.Goals as goal

pub returns-then-whole-eq0 : goal.returns-then-whole-eq0
returns-then-whole-eq0 c = full _ _ _ _ _ _ (begins _ _ _ _ _ _ c.requires) (omega arith)

pub loop-item-init : goal.loop-item-init
loop-item-init c = rw (c.into_iter-item-iterator.ensures.into_iter_gives, c.new-item-items.ensures) (begins _ _ _ _ _ _ c.requires)

pub returns-in-Err : goal.returns-in-Err
returns-in-Err c = not_refused _ _ _ _ _ _ c.loop-item.invariant (rw c.in-Err.is at c.in-Some.ensures.steps)

pub returns-then-writer-end : goal.returns-then-writer-end
returns-then-writer-end c =
    full _ _ _ _ _ _
    (with_line _ _ _ _ _ _ c.loop-item.invariant (rw c.in-Ok.is at c.in-Some.ensures.steps) (sym c.covered_by.ensures ∙ c.if-covered_by.true) c.write_line.ensures.wrote)
    (omega arith)

pub loop-item-preserved-else-writer-end : goal.loop-item-preserved-else-writer-end
loop-item-preserved-else-writer-end c =
    with_line _ _ _ _ _ _ c.loop-item.invariant (rw c.in-Ok.is at c.in-Some.ensures.steps) (sym c.covered_by.ensures ∙ c.if-covered_by.true) c.write_line.ensures.wrote

pub loop-item-preserved : goal.loop-item-preserved
loop-item-preserved c =
    without _ _ _ _ _ _ c.loop-item.invariant (rw c.in-Ok.is at c.in-Some.ensures.steps) (sym c.covered_by.ensures ∙ c.if-covered_by.false)

pub returns : goal.returns
returns c = ends _ _ _ _ _ _ c.loop-item.invariant c.in-None.ensures.steps.0
