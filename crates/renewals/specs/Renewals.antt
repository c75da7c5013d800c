-- What "on" carries (RULES.md, 10), day by day; `follows_on` of proofs/Renewals.antt proves it of `dated`, for all windows and days.
use Rattle.std.specs.Prelude.{ℕ, suc, ◌≤◌, ◌≡◌, Bool, true, false, ◌||◌, List, [], ◌∷◌, ◌↔◌}
use Rattle.matching.specs.Matching.{Window}
use Rattle.renewals.specs.Dating.{runs, has_ended, yet_to_begin, those, some_open, on_open, on_until, not_on, dated}

-- some window runs on day d: the day is covered
unfoldable pub some_runs : ℕ → List Window → Bool
some_runs d [] = false
some_runs d (w ∷ ws) = runs d w || some_runs d ws

-- the days from t to u are an unbroken run: some window runs on each of them
abbrev pub Unbroken : List Window → (t u : ℕ) → Type 0
Unbroken ws t u = (d : ℕ) → t ≤ d → d ≤ u → some_runs d ws ≡ true

-- u is the last day of the unbroken run that begins with day t: no window runs on the next day
pub record LastDay (ws : List Window) (t u : ℕ) : Type 0 where
  pub begins : t ≤ u
  pub unbroken : Unbroken ws t u
  pub ends : some_runs (suc u) ws ≡ false

-- the unbroken run that begins with day t meets an open window: one runs on a day of it
pub record MeetsOpen (ws : List Window) (t : ℕ) : Type 0 where
  pub day : ℕ
  pub begins : t ≤ day
  pub unbroken : Unbroken ws t day
  pub met : some_open (those (runs day) ws) ≡ true

-- no day from t on is uncovered
abbrev pub Unending : List Window → ℕ → Type 0
Unending ws t = (d : ℕ) → t ≤ d → some_runs d ws ≡ true

-- "on" carries the last day of the unbroken run of days, beginning with day t, on each of which some window runs,
-- or "open" if that run meets an open window: exactly where it never ends. Where no window runs on day t, ended, ahead and never stay
pub record FollowsOn (ws : List Window) (t : ℕ) : Type 0 where
  pub until : (u : ℕ) → (dated t ws ≡ on_until u) ↔ LastDay ws t u
  pub meets : (dated t ws ≡ on_open) ↔ MeetsOpen ws t
  pub unending : (dated t ws ≡ on_open) ↔ Unending ws t
  pub otherwise : some_runs t ws ≡ false → dated t ws ≡ not_on (those (has_ended t) ws) (those (yet_to_begin t) ws)
