-- Never more readings than windows, and one: each lessens the windows that begin later than the day after the run's end.
use mathlib.Core.Path.{◌≡◌, refl}
use mathlib.Core.Bool.{Bool, true, false, cond}
use mathlib.Core.List.{List}
use Prim.Native.Nat.{ℕ, zero, suc, ◌+◌, ◌<◌, ◌≤◌}
use native.Mathlib.Omega.{arith}
use lib.ListN.{length}
use Rattle.matching.specs.Matching.{Window}
use Rattle.matching.proofs.Windows.{AllRight}
use Rattle.renewals.specs.Dating.{yet_to_begin}
use Rattle.renewals.proofs.Counting.{at_most_all}
use Rattle.renewals.proofs.Later.{later}
use Rattle.dating.specs.Readings.{readings, FewEnough}
use Rattle.dating.specs.Inside.Tally.{counted_in, unsettled, unread, again}
use Rattle.dating.specs.declared.Tally.{Tally}
use Rattle.dating.proofs.Readings.{Before, before_unread, before_again, reading}

-- at most so many readings are still to come: one, and one for each window that begins later than the day after the run's end
abbrev pub to_come : List Window → Tally → ℕ
to_come ws t = cond (unsettled t) (suc (later (t.run.until + 1) ws)) 0

module _ (ws : List Window) where
  pub fewer_to_come : (t t' : Tally) → (unsettled t' ≡ true → later (t'.run.until + 1) ws < later (t.run.until + 1) ws) → to_come ws t' < suc (later (t.run.until + 1) ws)
  fewer_to_come t t' f = go (unsettled t') refl
    where
      go : (x : Bool) → unsettled t' ≡ x → cond x (suc (later (t'.run.until + 1) ws)) 0 < suc (later (t.run.until + 1) ws)
      go true y = omega (arith, f y)
      go false y = omega arith

  most_to_come : (t : Tally) → to_come ws t ≤ length ws + 1
  most_to_come t = go (unsettled t)
    where
      go : (x : Bool) → cond x (suc (later (t.run.until + 1) ws)) 0 ≤ length ws + 1
      go true = omega (arith, at_most_all (yet_to_begin (t.run.until + 1)) ws)
      go false = omega arith

  module _ (day : ℕ) (right : AllRight ws) where
    abbrev Found : ℕ → Tally → Type 0
    Found m t = (n : ℕ) × (n ≤ m) × (unsettled (readings n day ws t) ≡ false)

    enough_from : (m : ℕ) (t : Tally) → (unsettled t ≡ true → Before ws day t) → to_come ws t ≤ m → Found m t
    unfolding readings
    enough_from zero t b h = go (unsettled t) refl h
      where
        go : (x : Bool) → unsettled t ≡ x → cond x (suc (later (t.run.until + 1) ws)) 0 ≤ 0 → Found 0 t
        go true e h = absurd (omega (arith, h))
        go false e h = (0, omega arith, e)
    enough_from (suc m) t b h = go (unsettled t) refl h (λ t'. enough_from m t')
      where
        go : (x : Bool) → unsettled t ≡ x → cond x (suc (later (t.run.until + 1) ws)) 0 ≤ suc m
            → ((t' : Tally) → (unsettled t' ≡ true → Before ws day t') → to_come ws t' ≤ m → Found m t') → Found (suc m) t
        go true e h next =
            let k = reading ws day right t (b e) in
            let i = next (counted_in day (again t) ws) (before_again ws day _ k.0) (omega (arith, h, fewer_to_come t _ k.1)) in
            (suc i.0, omega (arith, i.1), i.2)
        go false e h next = (0, omega arith, e)

    -- for every list of windows and every day from 1 on
    pub few_enough : 1 ≤ day → FewEnough day ws
    few_enough h = enough_from (length ws + 1) (unread day) (λ _. before_unread ws day h) (most_to_come (unread day))
