-- Writing the entries' values, one after another.
use mathlib.Core.Path.{◌≡◌, refl, sym, ◌∙◌}
use mathlib.Core.Logic.{◌⊎◌, inl, inr}
use mathlib.Core.List.{List, [], ◌∷◌}
use Prim.Native.Nat.{ℕ, ◌+◌, ◌≤◌, ◌<◌}
use native.Mathlib.Omega.{arith}
use native.Mathlib.Numerals.{add-one}
use lib.ListN.{length, set, length-set}
use borrow.Author.Tests.{eq-eqb, ne_eqb}
use Rattle.judging.specs.Ids.{times_in}
use Rattle.judging.proofs.Ids.{times_most}
use Rattle.refine.specs.Inside.Placing.{placed, HasRows}

-- the ids and values that are left to write make the whole column
pub record Places (u own next base : ℕ) (ids values column₀ column : List ℕ) (row : ℕ) (ids' values' : List ℕ) : Type 0 where
  pub same : length column ≡ length column₀
  pub apart : own < row
  pub even : length values' ≡ length ids'
  pub room : row + length ids' ≤ length column + times_in u ids'
  pub whole : placed u own row base ids' values' column ≡ placed u own next base ids values column₀

pub begins : {u own next base : ℕ} {ids values column₀ ids' values' : List ℕ} → ids' ≡ ids → values' ≡ values → length values ≡ length ids → HasRows u own next ids column₀
    → Places u own next base ids values column₀ column₀ next ids' values'
begins a b e h = rw (a, b) (record { same = refl; apart = h.0; even = e; room = h.1; whole = refl })

none : (s : List ℕ) → length s ≡ 0 → s ≡ []
none [] e = refl
none (x ∷ s) e = absurd (omega arith)

module _ {u own next base : ℕ} {ids values column₀ column : List ℕ} {row : ℕ} where
  pub done : {ids' values' : List ℕ} → Places u own next base ids values column₀ column row ids' values' → (ids' ≡ []) ⊎ (values' ≡ []) → column ≡ placed u own next base ids values column₀
  unfolding placed
  done p (inl e) = rw e at p.whole
  done {ids' = ids'} p (inr e) = let z = none ids' (omega (arith, rw e at p.even)) in rw z at p.whole

  -- the next id and value
  module _ {ids' values' idsᵣ valuesᵣ : List ℕ} {x v : ℕ} (p : Places u own next base ids values column₀ column row ids' values')
      (id : ids' ≡ x ∷ idsᵣ) (value : values' ≡ v ∷ valuesᵣ) where
    pub own_fits : own < length column
    unfolding times_in
    own_fits = let q = rw id at p.room in let a = p.apart in omega (arith, times_most u (x ∷ idsᵣ))

    pub row_fits : (x ≡ u → ⊥) → row < length column
    unfolding times_in
    row_fits e = let q = rw (id, times_in, ne_eqb u x (λ z. e (sym z))) at p.room in omega (arith, times_most u idsᵣ)

    pub at_own : x ≡ u → Places u own next base ids values column₀ (set column own (base + v)) row idsᵣ valuesᵣ
    unfolding placed times_in
    at_own e =
        let m = length-set column own (base + v) in
        let r = rw (id, eq-eqb u x (sym e)) at p.room in
        record {
          same = m ∙ p.same;
          apart = p.apart;
          even = omega (arith, rw (id, value) at p.even);
          room = omega arith;
          whole = rw (id, value, eq-eqb u x (sym e)) at p.whole;
        }

    pub at_row : (x ≡ u → ⊥) → Places u own next base ids values column₀ (set column row (base + v)) (row + 1) idsᵣ valuesᵣ
    unfolding placed times_in
    at_row e =
        let m = length-set column row (base + v) in
        let r = rw (id, ne_eqb u x (λ z. e (sym z))) at p.room in
        record {
          same = m ∙ p.same;
          apart = omega (arith, p.apart);
          even = omega (arith, rw (id, value) at p.even);
          room = omega arith;
          whole = rw (add-one row) (rw (id, value, ne_eqb u x (λ z. e (sym z))) at p.whole);
        }
