-- Dates counted by years, months and days: the date so many days after 2000-01-01, and how many days a date comes after it.
use mathlib.Core.Path.{◌≡◌, refl, ap, ◌∙◌}
use mathlib.Core.Bool.{Bool, true, false, cond}
use Prim.Native.Nat.{ℕ, zero, suc, ◌+◌, ◌-◌, ◌<◌, ◌≤◌}
use native.Mathlib.Nat.{add-zero, add-suc}
use native.Mathlib.Numerals.{add-one}
use native.Mathlib.Omega.{arith}
use lib.Dec.{eqb}
use borrow.Author.Tests.{lt-ltb, le-ltb}
use Rattle.rules.proofs.Cases.{by_lt}
use Rattle.calendar.specs.declared.Date.{Date}
use Rattle.calendar.specs.Calendar.{date, leap, short_month, month_days, tomorrow, date_after}
use Rattle.calendar.specs.Inside.Years.{year_days, years_days, months_days}
use Rattle.calendar.specs.Promise.{InCalendar}

-- ## Tomorrow

module _ (y m d : ℕ) where
  next_day : d < month_days (leap y) m → tomorrow (date y m d) ≡ date y m (d + 1)
  unfolding tomorrow
  next_day h = rw (lt-ltb _ _ h)

  next_month : month_days (leap y) m ≤ d → m < 12 → tomorrow (date y m d) ≡ date y (m + 1) 1
  unfolding tomorrow
  next_month h k = rw (le-ltb _ _ h, lt-ltb _ _ k)

  next_year : month_days (leap y) m ≤ d → 12 ≤ m → tomorrow (date y m d) ≡ date (y + 1) 1 1
  unfolding tomorrow
  next_year h k = rw (le-ltb _ _ h, le-ltb _ _ k)

-- ## How many days

-- a month has 28 to 31
pub month_some : (l : Bool) (m : ℕ) → (28 ≤ month_days l m) × (month_days l m ≤ 31)
unfolding month_days
month_some l m = go l (eqb m 2) (short_month m)
  where
    go : (l two short : Bool) → (28 ≤ cond two (cond l 29 28) (cond short 30 31)) × (cond two (cond l 29 28) (cond short 30 31) ≤ 31)
    go true true short = omega arith
    go false true short = omega arith
    go l false true = omega arith
    go l false false = omega arith

-- twelve months are a year
pub months_year : (l : Bool) → months_days l 12 ≡ year_days l
unfolding months_days month_days year_days
months_year true = refl
months_year false = refl

pub year_most : (l : Bool) → year_days l ≤ 366
unfolding year_days
year_most true = omega arith
year_most false = omega arith

pub year_least : (l : Bool) → 365 ≤ year_days l
unfolding year_days
year_least true = omega arith
year_least false = omega arith

-- ## The date so many days after 2000-01-01

-- from the first of a month on
module _ (y m s : ℕ) (e : date_after s ≡ date y m 1) where
  in_month : (j : ℕ) → j < month_days (leap y) m → date_after (s + j) ≡ date y m (j + 1)
  unfolding date_after
  in_month zero h = rw (add-zero s) e
  in_month (suc j) h =
      ap date_after (add-suc s j) ∙ ap tomorrow (in_month j (omega arith)) ∙ next_day y m (j + 1) (omega arith) ∙ ap (date y m) (omega arith)

  past_month : date_after (s + month_days (leap y) m) ≡ tomorrow (date y m (month_days (leap y) m))
  unfolding date_after
  past_month =
      let h = month_some (leap y) m in
      let last = month_days (leap y) m - 1 in
      let n : s + month_days (leap y) m ≡ suc (s + last) = omega arith in
      let d : last + 1 ≡ month_days (leap y) m = omega arith in
      ap date_after n ∙ ap tomorrow (in_month last (omega arith) ∙ ap (date y m) d)

-- from the first of a year on
module _ (y s : ℕ) (e : date_after s ≡ date y 1 1) where
  in_year : (i : ℕ) → i < 12 → date_after (s + months_days (leap y) i) ≡ date y (i + 1) 1
  unfolding months_days
  in_year zero h = rw (add-zero s) e
  in_year (suc i) h =
      let n : s + (months_days (leap y) i + month_days (leap y) (suc i)) ≡ s + months_days (leap y) i + month_days (leap y) (i + 1) = rw (add-one i) (omega arith) in
      let m : i + 1 + 1 ≡ suc i + 1 = omega arith in
      ap date_after n ∙ past_month y (i + 1) _ (in_year i (omega arith)) ∙ next_month y (i + 1) _ (omega arith) (omega arith) ∙ ap (λ (k : ℕ). date y k 1) m

  past_year : date_after (s + year_days (leap y)) ≡ date (y + 1) 1 1
  unfolding months_days
  past_year =
      let n : s + year_days (leap y) ≡ s + months_days (leap y) 11 + month_days (leap y) 12 = omega (arith, months_year (leap y)) in
      ap date_after n ∙ past_month y 12 _ (in_year 11 (omega arith)) ∙ next_year y 12 _ (omega arith) (omega arith)

pub years : (k : ℕ) → date_after (years_days k) ≡ date (2000 + k) 1 1
unfolding date_after years_days
years zero = refl
years (suc k) = past_year (2000 + k) _ (years k) ∙ ap (λ (y : ℕ). date y 1 1) (omega arith)

-- k years, i months and j days after 2000-01-01
pub counted : (k i j : ℕ) → i < 12 → j < month_days (leap (2000 + k)) (i + 1)
    → date_after (years_days k + months_days (leap (2000 + k)) i + j) ≡ date (2000 + k) (i + 1) (j + 1)
counted k i j h m = in_month (2000 + k) (i + 1) _ (in_year (2000 + k) _ (years k) i h) j m

-- ## How many days after 2000-01-01 a date comes

unfoldable pub days_after : Date → ℕ
days_after t = years_days (t.year - 2000) + months_days (leap t.year) (t.month - 1) + (t.day - 1)

pub months_more : (l : Bool) (m : ℕ) → 1 ≤ m → months_days l m ≡ months_days l (m - 1) + month_days l m
unfolding months_days
months_more l zero h = absurd (omega arith)
months_more l (suc i) h = let e : suc i - 1 ≡ i = omega arith in rw e

years_more : (y : ℕ) → 2000 ≤ y → years_days (y + 1 - 2000) ≡ years_days (y - 2000) + year_days (leap y)
unfolding years_days
years_more y h =
    let a : y + 1 - 2000 ≡ suc (y - 2000) = omega arith in
    let b : 2000 + (y - 2000) ≡ y = omega arith in
    rw (a, b)

-- tomorrow is in the calendar, and comes one day later
pub record Follows (t next : Date) : Type 0 where
  pub within : InCalendar next
  pub one : days_after next ≡ suc (days_after t)

follows : (t : Date) → InCalendar t → Follows t (tomorrow t)
unfolding days_after months_days
follows t c =
    let y = t.year in
    let m = t.month in
    let d = t.day in
    let md = month_days (leap y) m in
    by_lt d md
    (λ h. rw (next_day y m d h) (record {
      within = record { from_2000 = c.from_2000; month_from = c.month_from; month_to = c.month_to; day_from = omega arith; day_to = omega arith };
      one = omega (arith, c.day_from);
    }))
    (λ h.
    by_lt m 12
    (λ k. rw (next_month y m d h k) (record {
      within = record { from_2000 = c.from_2000; month_from = omega arith; month_to = omega arith; day_from = omega arith; day_to = omega (arith, month_some (leap y) (m + 1)) };
      one =
          let n : m + 1 - 1 ≡ m = omega arith in
          rw n (omega (arith, months_more (leap y) m c.month_from, c.day_from, c.day_to));
    }))
    (λ k. rw (next_year y m d h k) (record {
      within = record { from_2000 = omega (arith, c.from_2000); month_from = omega arith; month_to = omega arith; day_from = omega arith; day_to = omega (arith, month_some (leap (y + 1)) 1) };
      one =
          let n : m ≡ 12 = omega (arith, c.month_to) in
          let e = ap (months_days (leap y)) n ∙ months_year (leap y) in
          omega (arith, e, months_more (leap y) m c.month_from, years_more y c.from_2000, c.day_from, c.day_to);
    })))

-- each day has a date of the calendar, so many days after 2000-01-01
pub stands : (n : ℕ) → InCalendar (date_after n) × (days_after (date_after n) ≡ n)
unfolding date_after days_after years_days months_days
stands zero = (record { from_2000 = omega arith; month_from = omega arith; month_to = omega arith; day_from = omega arith; day_to = omega (arith, month_some (leap 2000) 1) }, refl)
stands (suc n) =
    let s = stands n in
    let f = follows (date_after n) s.0 in
    (f.within, f.one ∙ ap suc s.1)
