-- Ids that differ two by two, by their places.
use mathlib.Core.Path.{◌≡◌, refl, sym, ◌∙◌}
use mathlib.Core.Bool.{true, false, not, and-false}
use mathlib.Core.List.{List, [], ◌∷◌}
use Prim.Native.Nat.{ℕ, zero, suc, ◌<◌}
use native.Mathlib.Omega.{arith}
use lib.Dec.{eqb}
use lib.ListN.{length, get_or, take}
use lib.Seq.{length-take-le, get_or-take}
use borrow.Author.Tests.{eq-eqb, ne_eqb}
use Rattle.distinct.specs.Distinct.{none_is, all_differ}

-- of the first n ids no two are equal
abbrev pub Differ : List ℕ → ℕ → Type 0
Differ s n = (j : ℕ) → j < n → (i : ℕ) → i < j → get_or s i 0 ≡ get_or s j 0 → ⊥

none_is_lem : (x : ℕ) (s : List ℕ) → ((j : ℕ) → j < length s → x ≡ get_or s j 0 → ⊥) → none_is x s ≡ true
unfolding none_is
none_is_lem x [] f = refl
none_is_lem x (y ∷ s) f = rw (ne_eqb x y (f 0 (omega arith)), none_is_lem x s (λ j h. f (suc j) (omega arith)))

some_is : (x : ℕ) (s : List ℕ) (j : ℕ) → j < length s → x ≡ get_or s j 0 → none_is x s ≡ false
unfolding none_is
some_is x [] j h e = absurd (omega arith)
some_is x (y ∷ s) zero h e = rw (eq-eqb x y e)
some_is x (y ∷ s) (suc j) h e = rw (some_is x s j (omega arith) e) (and-false (not (eqb x y)))

pub all_differ_lem : (s : List ℕ) → Differ s (length s) → all_differ s ≡ true
unfolding all_differ
all_differ_lem [] f = refl
all_differ_lem (x ∷ s) f =
    rw (none_is_lem x s (λ j h. f (suc j) (omega arith) 0 (omega arith)), all_differ_lem s (λ j h i k. f (suc j) (omega arith) (suc i) (omega arith)))

pub two_same : (s : List ℕ) (i j : ℕ) → i < j → j < length s → get_or s i 0 ≡ get_or s j 0 → all_differ s ≡ false
unfolding all_differ
two_same [] i j h k e = absurd (omega arith)
two_same (x ∷ s) i zero h k e = absurd (omega arith)
two_same (x ∷ s) zero (suc j) h k e = rw (some_is x s j (omega arith) e)
two_same (x ∷ s) (suc i) (suc j) h k e = rw (two_same s i j (omega arith) (omega arith) e) (and-false (none_is x s))

-- an id that stands among those above it
pub above_same : (s : List ℕ) (i k : ℕ) → i < length s → k < length (take i s) → get_or (take i s) k 0 ≡ get_or s i 0 → all_differ s ≡ false
above_same s i k h l e =
    let m : k < i = omega (arith, length-take-le i s (omega arith)) in
    two_same s k i m h (sym (get_or-take i s k 0 m) ∙ e)
