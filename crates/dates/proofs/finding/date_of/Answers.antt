use Rattle.std.proofs.Common.{ap, ◌∙◌, arith}
use Rattle.calendar.specs.Calendar.{leap, date_after, date_of}
use Rattle.calendar.specs.Inside.Years.{year_days, years_days}
use Rattle.dates.proofs.Searching.{in_year, year_date}
use Rattle.dates.proofs.finding.date_of.Goals as goal

pub date_in-requires : goal.date_in-requires
unfolding leap year_days
date_in-requires c = (omega arith, omega arith)

pub returns-then-day-eq0 : goal.returns-then-day-eq0
unfolding years_days date_of
returns-then-day-eq0 c = c.date_in.ensures ∙ ap date_after (omega arith)

pub date_in-requires-2 : goal.date_in-requires-2
date_in-requires-2 c =
    let i = c.year_of-k.ensures in
    (i.known, rw c.first_day.ensures (in_year _ _ i))

pub returns : goal.returns
returns c = c.date_in-2.ensures ∙ rw c.first_day.ensures (year_date _ _ c.year_of-k.ensures)
