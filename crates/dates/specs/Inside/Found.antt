-- A day's year and date, as they are found.
use Rattle.std.specs.Prelude.{ℕ, ◌+◌, ◌<◌, ◌≤◌, List, get_or}
use Rattle.calendar.specs.declared.Date.{Date}
use Rattle.calendar.specs.Inside.Years.{first_day}

-- the entry of year k in a table
unfoldable pub entry_of : List ℕ → ℕ → ℕ
entry_of days k = get_or days k 0

-- a day of the year that comes k years after 2000
pub record InYear (k day : ℕ) : Type 0 where
  pub known : k < 100
  pub begun : first_day k ≤ day
  pub going : day < first_day (k + 1)

-- a date of four digits and twice two
pub record Writable (t : Date) : Type 0 where
  pub year_fits : t.year < 10000
  pub month_fits : t.month < 100
  pub day_fits : t.day < 100
