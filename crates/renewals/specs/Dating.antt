-- What windows say on a day (RULES.md, 10).
use Rattle.std.specs.Prelude.{ℕ, zero, suc, min, max, Bool, false, cond, not, ◌&&◌, ◌||◌, List, [], ◌∷◌, eqb, leb, ltb, length}
use Rattle.matching.specs.Matching.{Window}

-- Last day 0 means open, without an end
unfoldable pub is_open : Window → Bool
is_open w = eqb w.last 0

-- On day t it runs when first ≤ t and last is 0 or ≥ t
unfoldable pub runs : ℕ → Window → Bool
runs t w = leb w.first t && (is_open w || leb t w.last)

-- it has ended when last is not 0 and before t
unfoldable pub has_ended : ℕ → Window → Bool
has_ended t w = not (is_open w) && ltb w.last t

-- it has yet to begin when t is before first
unfoldable pub yet_to_begin : ℕ → Window → Bool
yet_to_begin t w = ltb t w.first

-- the windows for which a test holds, in list order
unfoldable pub those : (Window → Bool) → List Window → List Window
those p [] = []
those p (w ∷ ws) = cond (p w) (w ∷ those p ws) (those p ws)

unfoldable pub some_open : List Window → Bool
some_open [] = false
some_open (w ∷ ws) = is_open w || some_open ws

-- the greatest of a day and the last days of windows
unfoldable pub greatest_last : ℕ → List Window → ℕ
greatest_last day [] = day
greatest_last day (w ∷ ws) = greatest_last (max day w.last) ws

-- the least of a day and the first days of windows
unfoldable pub least_first : ℕ → List Window → ℕ
least_first day [] = day
least_first day (w ∷ ws) = least_first (min day w.first) ws

-- a decision: on and open, on until a last day, ended on a last day, ahead of a first day, or never
pub data Decision : Type 0 where
  on_open : Decision
  on_until : ℕ → Decision
  ended : ℕ → Decision
  ahead : ℕ → Decision
  never : Decision

-- where none runs: ended, ahead, never, tried in turn
unfoldable pub not_on : (over coming : List Window) → Decision
not_on (w ∷ ws) coming = ended (greatest_last w.last ws)
not_on [] (w ∷ ws) = ahead (least_first w.first ws)
not_on [] [] = never

-- The windows that run on a day carry the run of days: to "open" if one of them is open, else to the greatest of their last days, and further
-- from there
unfoldable pub prolonged : (running : List Window) (none : Decision) (further : ℕ → Decision) → Decision
prolonged [] none further = none
prolonged (w ∷ ws) none further = cond (some_open (w ∷ ws)) on_open (further (greatest_last w.last ws))

-- The run of days is known up to day u: those that run on the next day carry it. Each window does so once at most, so that there are no more
-- steps than windows: `follows_on` of proofs/Renewals.antt says that the count never stops the run
unfoldable pub run_from : (most : ℕ) → List Window → ℕ → Decision
run_from zero ws u = on_until u
run_from (suc most) ws u = prolonged (those (runs (suc u)) ws) (on_until u) (run_from most ws)

-- The decision tries in turn:
-- on: some applying grant runs; carries the last day of the unbroken run of days, beginning with today, on each of which some applying grant
-- runs, or "open" if that run meets an open grant (specs/Renewals.antt has this sentence day by day);
-- ended: some applying grant has ended; carries the greatest last day of those;
-- ahead: some applying grant has yet to begin; carries the least first day;
-- never
unfoldable pub dated : ℕ → List Window → Decision
dated t ws = prolonged (those (runs t) ws) (not_on (those (has_ended t) ws) (those (yet_to_begin t) ws)) (run_from (length ws) ws)
