-- A day's date as text (RULES.md, 18.1): year-month-day as 2000-01-01.
use Rattle.std.specs.Prelude.{ℕ, ◌+◌, ◌/◌, ◌%◌, cond, List, [], ◌∷◌, ◌++◌, ltb}
use Rattle.rules.specs.Answers.{Answer, refused}
use Rattle.rules.specs.Buffers.{written, after}
use Rattle.text.specs.Letters.{letters}
use Rattle.calendar.specs.declared.Date.{Date}
use Rattle.calendar.specs.Calendar.{date_of, last_dated}

-- a number below 100 in two digits
unfoldable pub two : ℕ → List ℕ
two n = (n / 10 + 48) ∷ (n % 10 + 48) ∷ []

-- the year in four digits, month and day in two
unfoldable pub date_text : Date → List ℕ
date_text t = two (t.year / 100) ++ ((two (t.year % 100) ++ letters "-") ++ ((two t.month ++ letters "-") ++ two t.day))

-- what is written of a day: its date; nothing where the day is above 36525
unfoldable pub dated_text : ℕ → List ℕ
dated_text day = cond (ltb last_dated day) [] (date_text (date_of day))

-- the writer of a day's date: 31 where the day is above 36525, then 30; refused, nothing is written
unfoldable pub date_answer : List ℕ → (at day : ℕ) → Answer ℕ
date_answer buffer at day = cond (ltb last_dated day) (refused 31) (written buffer at (date_text (date_of day)))

unfoldable pub date_buffer : List ℕ → (at day : ℕ) → List ℕ
date_buffer buffer at day = cond (ltb last_dated day) buffer (after buffer at (date_text (date_of day)))
