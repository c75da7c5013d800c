-- How many windows pass a test: no more than pass a wider one.
use mathlib.Core.Path.{◌≡◌, refl}
use mathlib.Core.Bool.{Bool, true, false}
use mathlib.Core.List.{List, [], ◌∷◌}
use Prim.Native.Nat.{ℕ, ◌+◌, ◌≤◌}
use native.Mathlib.Omega.{arith}
use lib.ListN.{length}
use Rattle.matching.specs.Matching.{Window}

unfoldable pub count : Bool → ℕ
count true = 1
count false = 0

unfoldable pub how_many : (Window → Bool) → List Window → ℕ
how_many p [] = 0
how_many p (w ∷ ws) = count (p w) + how_many p ws

pub count_least : (a b : Bool) → (a ≡ true → b ≡ true) → count a ≤ count b
unfolding count
count_least false b f = omega arith
count_least true b f = rw (f refl) (omega arith)

pub no_more_lem : (p q : Window → Bool) → ((w : Window) → p w ≡ true → q w ≡ true) → (ws : List Window) → how_many p ws ≤ how_many q ws
unfolding how_many
no_more_lem p q f [] = omega arith
no_more_lem p q f (w ∷ ws) = omega (arith, no_more_lem p q f ws, count_least (p w) (q w) (f w))

pub at_most_all : (p : Window → Bool) (ws : List Window) → how_many p ws ≤ length ws
unfolding how_many count
at_most_all p [] = omega arith
at_most_all p (w ∷ ws) = omega (arith, at_most_all p ws, count_least (p w) true (λ _. refl))
