-- The calendar (RULES.md, 18.1): leap years, months, and a day's date by counting from 2000-01-01.
use Rattle.std.specs.Prelude.{ℕ, zero, suc, ◌+◌, ◌-◌, ◌%◌, Bool, cond, not, ◌&&◌, ◌||◌, eqb, ltb}
use Rattle.calendar.specs.declared.Date.{Date}

abbrev pub date : (year month day : ℕ) → Date
date year month day = record { year = year; month = month; day = day }

-- a leap year is divisible by 4, and not by 100 unless by 400
unfoldable pub leap : ℕ → Bool
leap year = eqb (year % 4) 0 && (not (eqb (year % 100) 0) || eqb (year % 400) 0)

-- April, June, September and November
abbrev pub short_month : ℕ → Bool
short_month month = eqb month 4 || (eqb month 6 || (eqb month 9 || eqb month 11))

-- how many days a month has: February 28, in a leap year 29; the short months 30; the others 31
unfoldable pub month_days : (leap : Bool) → ℕ → ℕ
month_days leap month = cond (eqb month 2) (cond leap 29 28) (cond (short_month month) 30 31)

-- the next date: the next day of the month, or the first of the next month, or after December the first of the next year
unfoldable pub tomorrow : Date → Date
tomorrow t =
    cond (ltb t.day (month_days (leap t.year) t.month))
    (date t.year t.month (t.day + 1))
    (cond (ltb t.month 12) (date t.year (t.month + 1) 1) (date (t.year + 1) 1 1))

-- the date so many days after 2000-01-01
unfoldable pub date_after : ℕ → Date
date_after zero = date 2000 1 1
date_after (suc n) = tomorrow (date_after n)

-- the date of a day: day 1 is 2000-01-01. There is no day 0; it is taken as day 1
unfoldable pub date_of : ℕ → Date
date_of day = date_after (day - 1)

-- the last day that has a date on a page
abbrev pub last_dated : ℕ
last_dated = 36525
