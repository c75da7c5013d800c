-- What a reading keeps of the windows, and whether it takes another. `tally_dated` of proofs/Readings.antt: in the end it says what `dated` does.
use Rattle.std.specs.Prelude.{ℕ, ◌-◌, max, Bool, cond, not, ◌&&◌, List, [], ◌∷◌, leb, Option, Some, None}
use Rattle.matching.specs.Matching.{Window}
use Rattle.renewals.specs.Dating.{is_open, has_ended, yet_to_begin, Decision, on_open, on_until, ended, ahead, never}
use Rattle.unbroken.specs.Inside.Run.{run, earlier, reaches, carry}
use Rattle.unbroken.specs.declared.Run.{Run}
use Rattle.dating.specs.declared.Tally.{Tally}

abbrev pub tally : Run → (open_from over coming : Option ℕ) → Tally
tally r open_from over coming = record { run = r; open_from = open_from; over = over; coming = coming }

-- the greater of the day that is kept, if one is, and another
unfoldable pub latest : Option ℕ → ℕ → ℕ
latest None day = day
latest (Some known) day = max known day

-- one more window, counted in: the run of days by a closed one, the least first day of the open ones, the greatest last day of those that have
-- ended, the least first day of those that have yet to begin
unfoldable pub run_with : Run → Window → Run
run_with r w = cond (is_open w) r (carry r w)

unfoldable pub open_with : Option ℕ → Window → Option ℕ
open_with known w = cond (is_open w) (Some (earlier known w.first)) known

unfoldable pub over_with : (day : ℕ) → Option ℕ → Window → Option ℕ
over_with day known w = cond (has_ended day w) (Some (latest known w.last)) known

unfoldable pub coming_with : (day : ℕ) → Option ℕ → Window → Option ℕ
coming_with day known w = cond (yet_to_begin day w) (Some (earlier known w.first)) known

unfoldable pub count_in : ℕ → Tally → Window → Tally
count_in day t w = tally (run_with t.run w) (open_with t.open_from w) (over_with day t.over w) (coming_with day t.coming w)

unfoldable pub counted_in : ℕ → Tally → List Window → Tally
counted_in day t [] = t
counted_in day t (w ∷ ws) = counted_in day (count_in day t w) ws

-- the run meets an open window
unfoldable pub endless : Tally → Bool
endless t = reaches t.run.until t.open_from

-- another reading is needed: a window that was left out follows on from the run by now
unfoldable pub unsettled : Tally → Bool
unsettled t = not (endless t) && reaches t.run.until t.run.left

-- before the first reading: the day itself is still left out
unfoldable pub unread : ℕ → Tally
unread day = tally (run (day - 1) None (Some day)) None None None

-- before another one: nothing is left out yet
unfoldable pub again : Tally → Tally
again t = tally (run t.run.until None None) t.open_from t.over t.coming

-- the decision where no window runs
abbrev pub kept : (over coming : Option ℕ) → Decision
kept (Some day) coming = ended day
kept None (Some day) = ahead day
kept None None = never

-- the decision in the end
unfoldable pub decision_of : ℕ → Tally → Decision
decision_of day t = cond (endless t) on_open (cond (leb day t.run.until) (on_until t.run.until) (kept t.over t.coming))
