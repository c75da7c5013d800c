-- Going by cases on a test of two numbers, with the fact that it shows.
use mathlib.Core.Path.{◌≡◌, refl}
use mathlib.Core.Bool.{Bool, true, false}
use Prim.Native.Nat.{ℕ, ◌<◌, ◌≤◌}
use lib.Dec.{ltb, eqb}
use borrow.Author.Tests.{ltb-true, ltb-false, eqb-true, eqb-false}

pub by_lt : {C : Type 0} (a b : ℕ) → (a < b → C) → (b ≤ a → C) → C
by_lt {C} a b f g = go (ltb a b) refl
  where
    go : (t : Bool) → ltb a b ≡ t → C
    go true e = f (ltb-true a b e)
    go false e = g (ltb-false a b e)

pub by_eq : {C : Type 0} (a b : ℕ) → (a ≡ b → C) → ((a ≡ b → ⊥) → C) → C
by_eq {C} a b f g = go (eqb a b) refl
  where
    go : (t : Bool) → eqb a b ≡ t → C
    go true e = f (eqb-true a b e)
    go false e = g (eqb-false a b e)
