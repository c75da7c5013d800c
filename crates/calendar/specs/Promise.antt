-- What the calendar promises of the dates of days.
use Rattle.std.specs.Prelude.{◌≡◌, true, false, List, [], ◌∷◌, map, ℕ, ◌+◌, ◌≤◌}
use Rattle.calendar.specs.declared.Date.{Date}
use Rattle.calendar.specs.Calendar.{date, leap, month_days, tomorrow, date_of, last_dated}

-- a date of the calendar from 2000-01-01 on
pub record InCalendar (t : Date) : Type 0 where
  pub from_2000 : 2000 ≤ t.year
  pub month_from : 1 ≤ t.month
  pub month_to : t.month ≤ 12
  pub day_from : 1 ≤ t.day
  pub day_to : t.day ≤ month_days (leap t.year) t.month

abbrev pub twelve : List ℕ
twelve = 1 ∷ 2 ∷ 3 ∷ 4 ∷ 5 ∷ 6 ∷ 7 ∷ 8 ∷ 9 ∷ 10 ∷ 11 ∷ 12 ∷ []

pub record Calendar : Type 0 where
  -- years that tell the full rule: 2000, 2004 and 2400 are leap years; 1900, 2001 and 2100 are not
  pub leaps : (leap 2000 ≡ true) × (leap 2004 ≡ true) × (leap 2400 ≡ true)
  pub others : (leap 1900 ≡ false) × (leap 2001 ≡ false) × (leap 2100 ≡ false)
  -- the months' lengths, January to December
  pub months : map (month_days false) twelve ≡ 31 ∷ 28 ∷ 31 ∷ 30 ∷ 31 ∷ 30 ∷ 31 ∷ 31 ∷ 30 ∷ 31 ∷ 30 ∷ 31 ∷ []
  pub leap_months : map (month_days true) twelve ≡ 31 ∷ 29 ∷ 31 ∷ 30 ∷ 31 ∷ 30 ∷ 31 ∷ 31 ∷ 30 ∷ 31 ∷ 30 ∷ 31 ∷ []
  -- day 1 is 2000-01-01, and day 36525 is 2099-12-31
  pub first : date_of 1 ≡ date 2000 1 1
  pub last : date_of last_dated ≡ date 2099 12 31
  -- the day after a date's day has the next date
  pub next : (day : ℕ) → 1 ≤ day → date_of (day + 1) ≡ tomorrow (date_of day)
  -- no two days have one date
  pub apart : (day other : ℕ) → 1 ≤ day → 1 ≤ other → date_of day ≡ date_of other → day ≡ other
  -- each day has a date of the calendar, and each date of the calendar is a day's
  pub within : (day : ℕ) → InCalendar (date_of day)
  pub each : (t : Date) → InCalendar t → (day : ℕ) × (1 ≤ day) × (date_of day ≡ t)
