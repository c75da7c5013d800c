-- Days of years and of months, added up: what the first day of a year is.
use Rattle.std.specs.Prelude.{ℕ, zero, suc, ◌+◌, Bool, cond}
use Rattle.calendar.specs.Calendar.{leap, month_days}

unfoldable pub year_days : (leap : Bool) → ℕ
year_days leap = cond leap 366 365

-- the days of so many years from 2000 on
unfoldable pub years_days : ℕ → ℕ
years_days zero = 0
years_days (suc k) = years_days k + year_days (leap (2000 + k))

-- the first day of the year that comes so many years after 2000
unfoldable pub first_day : ℕ → ℕ
first_day k = 1 + years_days k

-- the days of a year's first months
unfoldable pub months_days : (leap : Bool) → ℕ → ℕ
months_days leap zero = 0
months_days leap (suc i) = months_days leap i + month_days leap (suc i)
