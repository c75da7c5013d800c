use Rattle.std.proofs.Common.{refl, ◌∙◌}
use Rattle.calendar.specs.Calendar.{leap}
use Rattle.calendar.specs.Inside.Years.{year_days, years_days, first_day}
use Rattle.dates.proofs.Table.{first_days, entry_is}
use Rattle.dates.proofs.years.first_day.Goals as goal

pub returns : goal.returns
unfolding leap year_days years_days first_day first_days
returns c = c.entry.ensures ∙ entry_is _ refl _ c.requires
