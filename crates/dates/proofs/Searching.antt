-- How the year and the month of a day are found.
use mathlib.Core.Path.{◌≡◌, ap, sym, ◌∙◌}
use mathlib.Core.Bool.{Bool}
use Prim.Native.Nat.{ℕ, zero, suc, ◌+◌, ◌*◌, ◌-◌, ◌/◌, ◌<◌, ◌≤◌}
use native.Mathlib.Omega.{arith}
use Rattle.calendar.specs.Calendar.{date, leap, month_days, date_after, date_of, last_dated}
use Rattle.calendar.specs.Inside.Years.{year_days, years_days, first_day, months_days}
use Rattle.calendar.proofs.Counting.{year_most, year_least, month_some, months_year, months_more, counted, days_after, stands}
use Rattle.dates.specs.Inside.Found.{InYear, Writable}

-- ## The year

years_most : (k : ℕ) → years_days k ≤ 366 * k
unfolding years_days
years_most zero = omega arith
years_most (suc k) = omega (arith, years_most k, year_most (leap (2000 + k)))

-- the search begins with a year that has begun
pub begins : (day : ℕ) → 1 ≤ day → day ≤ last_dated → ((day - 1) / 366 < 100) × (first_day ((day - 1) / 366) ≤ day)
unfolding first_day
begins day h k = (omega arith, omega (arith, years_most ((day - 1) / 366)))

-- and ends with 2099 at the latest
pub in_last : {k day : ℕ} → day ≤ last_dated → 99 ≤ k → k < 100 → first_day k ≤ day → InYear k day
unfolding first_day leap year_days years_days
in_last {k} {day} h from to begun =
    let e : k ≡ 99 = omega arith in
    record { known = to; begun = begun; going = rw e (omega arith) }

-- ## The month

-- a month of a year, where so many days are left of those after the year's first
pub record InMonth (l : Bool) (after left month : ℕ) : Type 0 where
  pub from : 1 ≤ month
  pub to : month ≤ 12
  pub sum : months_days l (month - 1) + left ≡ after

module _ (l : Bool) (after : ℕ) where
  pub january : InMonth l after after 1
  unfolding months_days
  january = record { from = omega arith; to = omega arith; sum = omega arith }

  -- the next month
  pub next : {left month days : ℕ} → InMonth l after left month → month < 12 → days ≡ month_days l month → days ≤ left → InMonth l after (left - days) (month + 1)
  next {left} {month} {days} i k e d =
      let s = months_more l month i.from in
      let n : month + 1 - 1 ≡ month = omega arith in
      let sums : months_days l month + (left - days) ≡ after = omega (arith, i.sum, e) in
      record { from = omega arith; to = omega arith; sum = rw n sums }

  -- December has the days that are left of the year
  pub december : {left month : ℕ} → after < year_days l → InMonth l after left month → month ≡ 12 → left < month_days l month
  december {left} {month} h i e =
      let s = months_more l month i.from in
      omega (arith, i.sum, ap (months_days l) e ∙ months_year l)

-- the date that is found
pub found : (k : ℕ) {after left month : ℕ} → InMonth (leap (2000 + k)) after left month → left < month_days (leap (2000 + k)) month
    → date (2000 + k) month (left + 1) ≡ date_after (years_days k + after)
found k {after} {left} {month} i h =
    let l = leap (2000 + k) in
    let m : month - 1 + 1 ≡ month = omega (arith, i.from) in
    let n : years_days k + months_days l (month - 1) + left ≡ years_days k + after = omega (arith, i.sum) in
    sym (ap date_after (sym n) ∙ counted k (month - 1) left (omega (arith, i.from, i.to)) (rw m h) ∙ ap (λ (j : ℕ). date (2000 + k) j (left + 1)) m)

-- a day and its year: so many days after the year's first
pub year_date : (k day : ℕ) → InYear k day → date_after (years_days k + (day - first_day k)) ≡ date_of day
unfolding first_day date_of
year_date k day i = ap date_after (omega (arith, i.begun))

pub in_year : (k day : ℕ) → InYear k day → day - first_day k < year_days (leap (2000 + k))
unfolding first_day years_days
in_year k day i = let e : k + 1 ≡ suc k = omega arith in let h = rw e at i.going in omega (arith, i.begun)

-- ## The date's digits

years_least : (k : ℕ) → 365 * k ≤ years_days k
unfolding years_days
years_least zero = omega arith
years_least (suc k) = omega (arith, years_least k, year_least (leap (2000 + k)))

pub writable : (day : ℕ) → day ≤ last_dated → Writable (date_of day)
unfolding date_of days_after
writable day h =
    let s = stands (day - 1) in
    let c = s.0 in
    let t = date_after (day - 1) in
    record {
      year_fits = omega (arith, s.1, years_least (t.year - 2000));
      month_fits = omega (arith, c.month_to);
      day_fits = omega (arith, c.day_to, month_some (leap t.year) t.month);
    }
