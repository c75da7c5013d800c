use Rattle.std.proofs.Common.{◌+◌, ◌≡◌, ap, sym, ◌∙◌, arith}
use Rattle.calendar.specs.Calendar.{leap, month_days, date}
use Rattle.calendar.proofs.Counting.{year_most}
use Rattle.dates.proofs.Searching.{january, next, december, found}
use Rattle.dates.proofs.finding.date_in.Goals as goal

pub loop-month-init : goal.loop-month-init
loop-month-init c = january _ _

pub returns-then-left-days : goal.returns-then-left-days
returns-then-left-days c =
    found _ c.loop-month.invariant
    (omega (arith, c.if-left-days.true, c.month_days-days.ensures ∙ ap (λ l. month_days l c.loop-month.month) c.leap-leap.ensures))

pub loop-month-preserved : goal.loop-month-preserved
loop-month-preserved c =
    next _ _ c.loop-month.invariant c.loop-month-test.true (c.month_days-days.ensures ∙ ap (λ l. month_days l c.loop-month.month) c.leap-leap.ensures) c.if-left-days.false

pub returns : goal.returns
returns c =
    let i = c.loop-month.invariant in
    let e : c.loop-month.month ≡ 12 = omega (arith, i.to) in
    ap (λ m. date (2000 + c.args.k) m (c.loop-month.left + 1)) (sym e) ∙ found _ i (december _ _ c.requires.1 i e)

pub overflow_add-result-2 : goal.overflow_add-result-2
overflow_add-result-2 c = omega (arith, c.loop-month.invariant.sum, year_most (leap (2000 + c.args.k)), c.requires.1)
