-- What the test "runs on a day" says of a window's first and last day.
use mathlib.Core.Path.{◌≡◌, refl}
use mathlib.Core.Bool.{true, false}
use mathlib.Core.List.{List, [], ◌∷◌}
use Prim.Native.Nat.{ℕ, ◌<◌, ◌≤◌}
use native.Mathlib.Omega.{arith}
use lib.Dec.{leb}
use borrow.Author.Tests.{eq-eqb, ne_eqb, eqb-false, le-leb, lt-leb, leb-true}
use Rattle.rules.proofs.Cases.{by_lt}
use Rattle.rules.proofs.Bools.{or_none, and_both}
use Rattle.matching.specs.Matching.{Window}
use Rattle.renewals.specs.Dating.{is_open, runs, those}
use Rattle.renewals.specs.Renewals.{some_runs}

pub runs_from : (d : ℕ) (w : Window) → w.first ≤ d → (w.last ≡ 0 → ⊥) → d ≤ w.last → runs d w ≡ true
unfolding runs is_open
runs_from d w f z l = rw (le-leb _ _ f, ne_eqb _ _ z) (le-leb _ _ l)

pub runs_open : (d : ℕ) (w : Window) → w.first ≤ d → w.last ≡ 0 → runs d w ≡ true
unfolding runs is_open
runs_open d w f z = rw (le-leb _ _ f, eq-eqb _ _ z)

pub not_begun : (d : ℕ) (w : Window) → d < w.first → runs d w ≡ false
unfolding runs
not_begun d w h = rw (lt-leb _ _ h)

pub not_after : (d : ℕ) (w : Window) → (w.last ≡ 0 → ⊥) → w.last < d → runs d w ≡ false
unfolding runs is_open
not_after d w z h = by_lt d w.first (not_begun d w) (λ f. rw (le-leb _ _ f, ne_eqb _ _ z) (lt-leb _ _ h))

pub begun : (d : ℕ) (w : Window) → runs d w ≡ true → w.first ≤ d
unfolding runs
begun d w e = leb-true _ _ (and_both (leb w.first d) _ e).0

pub not_over : (d : ℕ) (w : Window) → runs d w ≡ true → is_open w ≡ false → d ≤ w.last
unfolding runs
not_over d w e o = leb-true _ _ (rw o at (and_both (leb w.first d) _ e).1)

-- a closed one runs on to its last day
pub runs_on : (d x : ℕ) (w : Window) → runs d w ≡ true → is_open w ≡ false → d ≤ x → x ≤ w.last → runs x w ≡ true
unfolding is_open
runs_on d x w e o h = runs_from x w (omega (arith, begun d w e)) (eqb-false w.last 0 o)

pub none_runs : (d : ℕ) (ws : List Window) → some_runs d ws ≡ false → those (runs d) ws ≡ []
unfolding those some_runs
none_runs d [] e = refl
none_runs d (w ∷ ws) e = let h = or_none (runs d w) (some_runs d ws) e in rw h.0 (none_runs d ws h.1)
