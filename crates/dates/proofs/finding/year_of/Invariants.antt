-- Year k has begun by the day.
use Rattle.std.proofs.Common.{◌<◌, ◌≤◌}
use Rattle.calendar.specs.Inside.Years.{first_day}
use Rattle.dates.proofs.finding.year_of.Given as goal

abbrev pub invariant-loop-k : goal.invariant-loop-k
invariant-loop-k l = (l.k < 100) × (first_day l.k ≤ l.day)
