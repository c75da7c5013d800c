-- Where no window runs: what readings keep of those that have ended, and of those that have yet to begin.
use mathlib.Core.Path.{◌≡◌, refl, ap, ◌∙◌}
use mathlib.Core.Bool.{Bool, true, false, cond}
use mathlib.Core.List.{List, [], ◌∷◌}
use Prim.Native.Nat.{ℕ, min, max}
use Rattle.std.specs.Prelude.{Option, Some, None}
use Rattle.matching.specs.Matching.{Window}
use Rattle.renewals.specs.Dating.{has_ended, yet_to_begin, those, greatest_last, least_first, not_on}
use Rattle.unbroken.specs.Inside.Run.{earlier}
use Rattle.dating.specs.Inside.Tally.{latest, over_with, coming_with, count_in, counted_in, kept}
use Rattle.dating.specs.declared.Tally.{Tally}

-- the greatest of the day that is kept, if one is, and the last days of windows
unfoldable pub last_of : Option ℕ → List Window → Option ℕ
last_of day [] = day
last_of day (w ∷ ws) = last_of (Some (latest day w.last)) ws

-- the least of the day that is kept, if one is, and the first days of windows
unfoldable pub soonest : Option ℕ → List Window → Option ℕ
soonest day [] = day
soonest day (w ∷ ws) = soonest (Some (earlier day w.first)) ws

last_some : (day : ℕ) (ws : List Window) → last_of (Some day) ws ≡ Some (greatest_last day ws)
unfolding last_of greatest_last latest
last_some day [] = refl
last_some day (w ∷ ws) = last_some (max day w.last) ws

soonest_some : (day : ℕ) (ws : List Window) → soonest (Some day) ws ≡ Some (least_first day ws)
unfolding soonest least_first earlier
soonest_some day [] = refl
soonest_some day (w ∷ ws) = soonest_some (min day w.first) ws

module _ (day : ℕ) where
  pub counted_over : (t : Tally) (ws : List Window) → (counted_in day t ws).over ≡ last_of t.over (those (has_ended day) ws)
  unfolding counted_in count_in over_with last_of those
  counted_over t [] = refl
  counted_over t (w ∷ ws) = counted_over (count_in day t w) ws ∙ go (has_ended day w)
    where
      go : (b : Bool) → last_of (cond b (Some (latest t.over w.last)) t.over) (those (has_ended day) ws)
          ≡ last_of t.over (cond b (w ∷ those (has_ended day) ws) (those (has_ended day) ws))
      go true = refl
      go false = refl

  pub counted_coming : (t : Tally) (ws : List Window) → (counted_in day t ws).coming ≡ soonest t.coming (those (yet_to_begin day) ws)
  unfolding counted_in count_in coming_with soonest those
  counted_coming t [] = refl
  counted_coming t (w ∷ ws) = counted_coming (count_in day t w) ws ∙ go (yet_to_begin day w)
    where
      go : (b : Bool) → soonest (cond b (Some (earlier t.coming w.first)) t.coming) (those (yet_to_begin day) ws)
          ≡ soonest t.coming (cond b (w ∷ those (yet_to_begin day) ws) (those (yet_to_begin day) ws))
      go true = refl
      go false = refl

-- what is kept of the windows says which have ended, else which have yet to begin
pub idle_kept : (over coming : List Window) → kept (last_of None over) (soonest None coming) ≡ not_on over coming
unfolding not_on last_of soonest latest earlier
idle_kept (w ∷ ws) coming = ap (λ (k : Option ℕ). kept k (soonest None coming)) (last_some w.last ws)
idle_kept [] (w ∷ ws) = ap (kept None) (soonest_some w.first ws)
idle_kept [] [] = refl
