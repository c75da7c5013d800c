-- Laws of the index of a number in a column.
use mathlib.Core.Path.{◌≡◌, refl, ap, ◌∙◌}
use mathlib.Core.List.{List, [], ◌∷◌}
use mathlib.Core.Logic.{◌⊎◌, inl, inr, ⊎_elim}
use Prim.Native.Nat.{ℕ, zero, suc, ◌+◌, ◌≤◌, ◌<◌}
use native.Mathlib.Omega.{arith}
use lib.ListN.{length, get_or, take}
use borrow.Author.Count.{below_more}
use borrow.Author.Tests.{eq-eqb, ne_eqb}
use lib.Dec.{eqb}
use Rattle.std.specs.Option.{unwrap_or}
use Rattle.std.specs.List.{position, position_from}
use Rattle.std.proofs.lemmas.Iterator.Adapters.{position_from-zero}
use Rattle.rules.proofs.Cases.{by_eq}
use Rattle.table.specs.Places.{index_from, place_of}
use Rattle.table.specs.Inside.Places.{PlaceIn}

-- none of the first n is x
abbrev pub NoneOf : List ℕ → ℕ → ℕ → Type 0
NoneOf column n x = (k : ℕ) → k < n → get_or column k 0 ≡ x → ⊥

index_there : (s : List ℕ) (n none x i j : ℕ) → j < n → j < length s → get_or s j 0 ≡ x → NoneOf s j x → index_from i none x (take n s) ≡ i + j
unfolding index_from
index_there [] n none x i j h k e f = absurd (omega arith)
index_there (y ∷ s) zero none x i j h k e f = absurd (omega arith)
index_there (y ∷ s) (suc n) none x i zero h k e f = rw (eq-eqb y x e) (omega arith)
index_there (y ∷ s) (suc n) none x i (suc j) h k e f =
    rw (ne_eqb y x (f 0 (omega arith)))
    (index_there s n none x (suc i) j (omega arith) (omega arith) e (λ m l. f (suc m) (omega arith)) ∙ omega arith)

index_none : (s : List ℕ) (n none x i : ℕ) → ((k : ℕ) → k < n → k < length s → get_or s k 0 ≡ x → ⊥) → index_from i none x (take n s) ≡ none
unfolding index_from
index_none [] zero none x i f = refl
index_none [] (suc n) none x i f = refl
index_none (y ∷ s) zero none x i f = refl
index_none (y ∷ s) (suc n) none x i f =
    rw (ne_eqb y x (f 0 (omega arith) (omega arith))) (index_none s n none x (suc i) (λ k h l. f (suc k) (omega arith) (omega arith)))

module _ (column : List ℕ) (n x : ℕ) where
  pub place_there : (i : ℕ) → i < n → i < length column → get_or column i 0 ≡ x → NoneOf column i x → place_of column n x ≡ i
  unfolding place_of
  place_there i h k e f = index_there column n n x 0 i h k e f ∙ omega arith

  pub place_none : ((k : ℕ) → k < n → k < length column → get_or column k 0 ≡ x → ⊥) → place_of column n x ≡ n
  unfolding place_of
  place_none f = index_none column n n x 0 f

-- the search by `position`
index_position : (i none x : ℕ) (s : List ℕ) → unwrap_or (position_from (λ y. eqb y x) i s) none ≡ index_from i none x s
unfolding index_from
index_position i none x [] = refl
index_position i none x (y ∷ s) = by_eq y x (λ e. rw (eq-eqb y x e)) (λ e. rw (ne_eqb y x e) (let f : i + 1 ≡ suc i = omega arith in rw f (index_position (suc i) none x s)))

pub place_position : (column : List ℕ) (n x : ℕ) → unwrap_or (position (λ y. eqb y x) (take n column)) n ≡ place_of column n x
unfolding place_of
place_position column n x = ap (λ o. unwrap_or o n) (position_from-zero (λ y. eqb y x) (take n column)) ∙ index_position 0 n x (take n column)

-- the first of n numbers that is x, or none
first_of : (column : List ℕ) (x n : ℕ) → ((i : ℕ) × (i < n) × (get_or column i 0 ≡ x) × NoneOf column i x) ⊎ NoneOf column n x
first_of column x zero = inr (λ k h. absurd (omega arith))
first_of column x (suc n) =
    ⊎_elim (λ t. inl (t.0, omega (arith, t.1), t.2, t.3))
    (λ f. by_eq (get_or column n 0) x (λ e. inl (n, omega arith, e, f)) (λ g. inr (λ k h. below_more _ _ f g k (omega arith))))
    (first_of column x n)

-- what the index is, where the column has n numbers
pub place_in : (column : List ℕ) (n x : ℕ) → n ≤ length column → PlaceIn column n x (place_of column n x)
place_in column n x h =
    ⊎_elim
    (λ t. rw (place_there column n x t.0 t.1 (omega (arith, t.1)) t.2 t.3) (record { most = omega (arith, t.1); there = λ _. t.2; before = t.3 }))
    (λ f. rw (place_none column n x (λ k i j. f k i)) (record { most = omega arith; there = λ i. absurd (omega arith); before = f }))
    (first_of column x n)

-- the same of an answer of the lookup
pub place_at : {column : List ℕ} {n x i : ℕ} → n ≤ length column → i ≡ place_of column n x → PlaceIn column n x i
place_at {column} {n} {x} h e = rw e (place_in column n x h)
