-- The days of the months before, and those left, are the days after the year's first.
use Rattle.std.proofs.Common.{◌+◌}
use Rattle.calendar.specs.Calendar.{leap}
use Rattle.dates.proofs.Searching.{InMonth}
use Rattle.dates.proofs.finding.date_in.Given as goal

abbrev pub invariant-loop-month : goal.invariant-loop-month
invariant-loop-month l = InMonth (leap (2000 + l.k)) l.after l.left l.month
