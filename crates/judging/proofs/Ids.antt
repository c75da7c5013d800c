-- Ids one after another: what they say from index i on.
use mathlib.Core.Path.{◌≡◌, refl, ap, sym, ◌∙◌}
use mathlib.Core.Bool.{true, false, cond}
use mathlib.Core.List.{List, [], ◌∷◌}
use Prim.Native.Nat.{ℕ, suc, ◌+◌, ◌≤◌, ◌<◌}
use native.Mathlib.Omega.{arith}
use native.Mathlib.Numerals.{add-one}
use lib.Dec.{eqb, leb}
use lib.ListN.{length, get_or, drop}
use lib.Seq.{drop-cons}
use borrow.Author.Tests.{eq-eqb, ne_eqb, le-leb}
use Rattle.rules.proofs.Cases.{by_eq}
use Rattle.rules.specs.Pick.{pick}
use Rattle.std.specs.List.{list_any, count_by}
use Rattle.std.proofs.lemmas.List.Recursion.{is_count_by}
use Rattle.judging.specs.Ids.{times_in}
use Rattle.judging.specs.Judging.{taken_in}

module _ (s : List ℕ) (i : ℕ) (h : i < length s) where
  pub ids_step : drop i s ≡ get_or s i 0 ∷ drop (i + 1) s
  ids_step = rw (add-one, drop-cons s i 0 h)

-- no id comes more often than there are ids
pub times_most : (x : ℕ) (s : List ℕ) → times_in x s ≤ length s
unfolding times_in
times_most x [] = omega arith
times_most x (y ∷ s) = elim (eqb x y) as (λ b. pick b 1 0 + times_in x s ≤ suc (length s)) [ true ↦ omega (arith, times_most x s) | false ↦ omega (arith, times_most x s) ]

-- how often x comes, in std's word
pub times_count : (x : ℕ) (s : List ℕ) → count_by (λ y. eqb x y) s ≡ times_in x s
unfolding times_in
times_count x s =
    sym (is_count_by (times_in x) (λ y. eqb x y) refl
    (λ y t. elim (eqb x y) as (λ b. pick b 1 0 + times_in x t ≡ cond b (1 + times_in x t) (times_in x t)) [ true ↦ omega arith | false ↦ omega arith ])
    s)

-- x is there where it comes once at least
some_time : (x : ℕ) (s : List ℕ) → list_any (λ y. eqb y x) s ≡ leb 1 (times_in x s)
unfolding times_in
some_time x [] = refl
some_time x (y ∷ s) =
    by_eq x y
    (λ e. rw (eq-eqb y x (sym e), eq-eqb x y e) (sym (le-leb 1 (1 + times_in x s) (omega arith))))
    (λ e. let z : times_in x s ≡ 0 + times_in x s = omega arith in rw (ne_eqb y x (λ z. e (sym z)), ne_eqb x y e) (some_time x s ∙ ap (leb 1) z))

pub taken_there : (u : ℕ) (id : List ℕ) (x : ℕ) → (x ≡ u → ⊥) → list_any (λ y. eqb y x) id ≡ taken_in u id x
taken_there u id x e = some_time x id ∙ rw (ne_eqb x u e)
