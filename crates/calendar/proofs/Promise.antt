-- The calendar's promises.
use mathlib.Core.Path.{◌≡◌, refl, ap, sym, ◌∙◌}
use mathlib.Core.Bool.{true, false}
use mathlib.Core.List.{[], ◌∷◌, map}
use Prim.Native.Nat.{ℕ, suc, ◌+◌, ◌-◌, ◌≤◌}
use native.Mathlib.Omega.{arith}
use Rattle.calendar.specs.declared.Date.{Date}
use Rattle.calendar.specs.Calendar.{date, leap, month_days, tomorrow, date_after, date_of, last_dated}
use Rattle.calendar.specs.Inside.Years.{year_days, years_days, months_days}
use Rattle.calendar.specs.Promise.{InCalendar, twelve, Calendar}
use Rattle.calendar.proofs.Counting.{counted, days_after, stands}

next_date : (day : ℕ) → 1 ≤ day → date_of (day + 1) ≡ tomorrow (date_of day)
unfolding date_of date_after
next_date day h = let e : day + 1 - 1 ≡ suc (day - 1) = omega arith in ap date_after e

one_date : (day other : ℕ) → 1 ≤ day → 1 ≤ other → date_of day ≡ date_of other → day ≡ other
unfolding date_of
one_date day other h k e =
    let n : day - 1 ≡ other - 1 = sym (stands (day - 1)).1 ∙ ap days_after e ∙ (stands (other - 1)).1 in
    omega arith

a_date : (day : ℕ) → InCalendar (date_of day)
unfolding date_of
a_date day = (stands (day - 1)).0

a_day : (t : Date) → InCalendar t → (day : ℕ) × (1 ≤ day) × (date_of day ≡ t)
unfolding date_of
a_day t c =
    let k = t.year - 2000 in
    let i = t.month - 1 in
    let j = t.day - 1 in
    let y : 2000 + k ≡ t.year = omega (arith, c.from_2000) in
    let m : i + 1 ≡ t.month = omega (arith, c.month_from) in
    let d : j + 1 ≡ t.day = omega (arith, c.day_from) in
    let n = years_days k + months_days (leap t.year) i + j in
    let e = counted k i j (omega (arith, c.month_from, c.month_to)) (rw (y, m) (omega (arith, c.day_from, c.day_to))) in
    let back : n + 1 - 1 ≡ n = omega arith in
    (n + 1, omega arith, ap date_after back ∙ rw (y, m, d) at e)

first_date : date_of 1 ≡ date 2000 1 1
unfolding date_of date_after
first_date = refl

-- 99 years, 11 months and 30 days later
last_date : date_of last_dated ≡ date 2099 12 31
unfolding date_of leap month_days year_days years_days months_days
last_date = counted 99 11 30 (omega arith) (omega arith)

leap_years : (leap 2000 ≡ true) × (leap 2004 ≡ true) × (leap 2400 ≡ true)
unfolding leap
leap_years = (refl, refl, refl)

other_years : (leap 1900 ≡ false) × (leap 2001 ≡ false) × (leap 2100 ≡ false)
unfolding leap
other_years = (refl, refl, refl)

months_are : map (month_days false) twelve ≡ 31 ∷ 28 ∷ 31 ∷ 30 ∷ 31 ∷ 30 ∷ 31 ∷ 31 ∷ 30 ∷ 31 ∷ 30 ∷ 31 ∷ []
unfolding month_days
months_are = refl

leap_months_are : map (month_days true) twelve ≡ 31 ∷ 29 ∷ 31 ∷ 30 ∷ 31 ∷ 30 ∷ 31 ∷ 31 ∷ 30 ∷ 31 ∷ 30 ∷ 31 ∷ []
unfolding month_days
leap_months_are = refl

pub calendar : Calendar
calendar =
    record { leaps = leap_years; others = other_years; months = months_are; leap_months = leap_months_are; first = first_date; last = last_date; next = next_date; apart = one_date; within = a_date; each = a_day }
