-- The windows that run on a day, and the days that they cover.
use mathlib.Core.Path.{◌≡◌, refl, sym}
use mathlib.Core.Bool.{Bool, true, false, cond, ◌||◌, or-true, true≢false}
use mathlib.Core.List.{List, [], ◌∷◌}
use Prim.Native.Nat.{ℕ, max, ◌<◌, ◌≤◌}
use native.Mathlib.Omega.{arith}
use borrow.Author.Tests.{eqb-true}
use Rattle.rules.proofs.Cases.{by_lt}
use Rattle.rules.proofs.Bools.{or_none}
use Rattle.matching.specs.Matching.{Window}
use Rattle.renewals.specs.Dating.{is_open, runs, those, some_open, greatest_last}
use Rattle.renewals.specs.Renewals.{some_runs, Unending}
use Rattle.renewals.proofs.Days.{begun, runs_open, runs_on}

-- the second list is those of the first that run on day d
pub data Running (d : ℕ) : List Window → List Window → Type 0 where
  none : Running d [] []
  on : {w : Window} {ws rs : List Window} → runs d w ≡ true → Running d ws rs → Running d (w ∷ ws) (w ∷ rs)
  off : {w : Window} {ws rs : List Window} → runs d w ≡ false → Running d ws rs → Running d (w ∷ ws) rs

pub running : (d : ℕ) (ws : List Window) → Running d ws (those (runs d) ws)
unfolding those
running d [] = none
running d (w ∷ ws) = go (runs d w) refl (running d ws)
  where
    go : (b : Bool) → runs d w ≡ b → Running d ws (those (runs d) ws) → Running d (w ∷ ws) (cond b (w ∷ those (runs d) ws) (those (runs d) ws))
    go true e rest = on e rest
    go false e rest = off e rest

pub uncovered : (d : ℕ) {ws : List Window} → Running d ws [] → some_runs d ws ≡ false
unfolding some_runs
uncovered d none = refl
uncovered d (off e rest) = rw e (uncovered d rest)

-- where one of them is open, no later day is uncovered
pub endless_on : (d : ℕ) {ws rs : List Window} → Running d ws rs → some_open rs ≡ true → Unending ws d
unfolding some_open some_runs is_open
endless_on d none o x h = absurd (true≢false (sym o))
endless_on d (off {w} e rest) o x h = rw (endless_on d rest o x h) (or-true (runs x w))
endless_on d (on {w} {ws} {rs} e rest) o x h = go (is_open w) refl o (λ p. endless_on d rest p x h)
  where
    go : (b : Bool) → is_open w ≡ b → (b || some_open rs) ≡ true → (some_open rs ≡ true → some_runs x ws ≡ true) → (runs x w || some_runs x ws) ≡ true
    go true z p later = rw (runs_open x w (omega (arith, begun d w e)) (eqb-true _ _ z))
    go false z p later = rw (later p) (or-true (runs x w))

pub greatest_least : (a : ℕ) (rs : List Window) → a ≤ greatest_last a rs
unfolding greatest_last
greatest_least a [] = omega arith
greatest_least a (w ∷ rs) = omega (arith, greatest_least (max a w.last) rs)

-- where none of them is open, the days past day a to the greatest last day are covered
pub reached : (d x a : ℕ) {ws rs : List Window} → Running d ws rs → some_open rs ≡ false → d ≤ x → x ≤ greatest_last a rs → a < x → some_runs x ws ≡ true
unfolding some_open some_runs greatest_last
reached d x a none o h g l = absurd (omega arith)
reached d x a (off {w} e rest) o h g l = rw (reached d x a rest o h g l) (or-true (runs x w))
reached d x a (on {w} {ws} {rs} e rest) o h g l =
    let p = or_none (is_open w) (some_open rs) o in
    by_lt w.last x (λ k. rw (reached d x (max a w.last) rest p.1 h g (omega arith)) (or-true (runs x w))) (λ k. rw (runs_on d x w e p.0 h k))
