-- A grant's line on the shift board (RULES.md, 18.2): feature, first date, last date and state, one space between them, and a line feed.
use Rattle.std.specs.Prelude.{ℕ, ◌-◌, Bool, cond, ◌||◌, List, [], ◌∷◌, ◌++◌, eqb, ltb, length, replicate}
use Rattle.rules.specs.Answers.{Answer, refused}
use Rattle.rules.specs.Buffers.{written, after}
use Rattle.text.specs.Decimal.{decimal}
use Rattle.text.specs.Letters.{letters}
use Rattle.calendar.specs.Calendar.{date_of, last_dated}
use Rattle.dates.specs.Dates.{date_text}
use Rattle.grant.specs.Grant.{Grant}
use Rattle.matching.specs.Matching.{Window, window}
use Rattle.renewals.specs.Dating.{runs, has_ended}

-- a text in so many columns, right-aligned or left-aligned; the fill is spaces
unfoldable pub right_in : (columns : ℕ) → List ℕ → List ℕ
right_in columns text = replicate (columns - length text) 32 ++ text

unfoldable pub left_in : (columns : ℕ) → List ℕ → List ℕ
left_in columns text = text ++ replicate (columns - length text) 32

-- a grant's last date; last day 0 prints `open`
unfoldable pub last_text : ℕ → List ℕ
last_text last = cond (eqb last 0) (letters "open") (date_text (date_of last))

-- a grant's state on a day: on, ended or ahead, for that grant by itself
unfoldable pub state_text : (day : ℕ) → Window → List ℕ
state_text day w = cond (runs day w) (letters "on") (cond (has_ended day w) (letters "ended") (letters "ahead"))

-- a field, and the byte after it: 32, a space, or 10, a line feed
unfoldable pub field : List ℕ → ℕ → List ℕ
field text end = text ++ (end ∷ [])

-- feature in 10 columns, right-aligned; first date in 10, last date in 10, state in 7
unfoldable pub grant_line : (day : ℕ) → Grant → List ℕ
grant_line day g =
    field (right_in 10 (decimal g.feature)) 32
    ++ (field (left_in 10 (date_text (date_of g.first))) 32
    ++ (field (left_in 10 (last_text g.last)) 32
    ++ field (left_in 7 (state_text day (window g))) 10))

-- 31: the first or last day is above 36525
unfoldable pub undated : Grant → Bool
undated g = ltb last_dated g.first || ltb last_dated g.last

-- what is written of a grant: its line; nothing where it has no dates
unfoldable pub dated_line : (day : ℕ) → Grant → List ℕ
dated_line day g = cond (undated g) [] (grant_line day g)

-- a line's writer: 31, then 30; refused, nothing is written
unfoldable pub line_answer : List ℕ → (at day : ℕ) → Grant → Answer ℕ
line_answer buffer at day g = cond (undated g) (refused 31) (written buffer at (grant_line day g))

unfoldable pub line_buffer : List ℕ → (at day : ℕ) → Grant → List ℕ
line_buffer buffer at day g = cond (undated g) buffer (after buffer at (grant_line day g))
