-- How many windows begin later than a day: what a reading lessens.
use mathlib.Core.Path.{◌≡◌}
use mathlib.Core.Bool.{true}
use mathlib.Core.List.{List, ◌∷◌}
use Prim.Native.Nat.{ℕ, ◌<◌, ◌≤◌}
use native.Mathlib.Omega.{arith}
use borrow.Author.Tests.{lt-ltb, le-ltb, ltb-true}
use Rattle.matching.specs.Matching.{Window}
use Rattle.renewals.specs.Dating.{yet_to_begin}
use Rattle.renewals.proofs.Counting.{count, how_many, count_least, no_more_lem}

abbrev pub later : ℕ → List Window → ℕ
later x ws = how_many (yet_to_begin x) ws

-- a window begins on day f: fewer begin later than a day from f on than later than a day before f
abbrev pub First : List Window → ℕ → Type 0
First ws f = (x y : ℕ) → x < f → f ≤ y → later y ws < later x ws

later_before : (x y : ℕ) → x ≤ y → (w : Window) → yet_to_begin y w ≡ true → yet_to_begin x w ≡ true
unfolding yet_to_begin
later_before x y h w e = lt-ltb x w.first (omega (arith, h, ltb-true y w.first e))

pub first_here : (w : Window) (ws : List Window) → First (w ∷ ws) w.first
unfolding how_many yet_to_begin count
first_here w ws x y a b =
    rw (lt-ltb x w.first a, le-ltb y w.first b) (omega (arith, no_more_lem (yet_to_begin y) (yet_to_begin x) (later_before x y (omega arith)) ws))

pub first_there : (w : Window) (ws : List Window) (f : ℕ) → First ws f → First (w ∷ ws) f
unfolding how_many
first_there w ws f h x y a b = omega (arith, h x y a b, count_least (yet_to_begin y w) (yet_to_begin x w) (later_before x y (omega arith) w))
