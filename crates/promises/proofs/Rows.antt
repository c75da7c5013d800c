-- Where the row of a group stands, and what holds of every row or of every pair of rows, by their ids.
use mathlib.Core.Path.{◌≡◌, refl, ap, ap₂, sym, ◌∙◌}
use mathlib.Core.Bool.{Bool, true, false, cond}
use mathlib.Core.List.{List, [], ◌∷◌, ◌++◌}
use mathlib.Core.Logic.{◌≢◌, ◌⊎◌, inl, inr}
use Prim.Native.Nat.{ℕ, ◌+◌, ◌≤◌}
use native.Mathlib.Omega.{arith}
use lib.Dec.{eqb}
use borrow.Author.Tests.{eqb-true, ne_eqb}
use Rattle.rules.proofs.Bools.{or_none}
use Rattle.request.specs.Entries.{pick, times, Distinct}
use Rattle.request.proofs.Sums.{eqb_same, count_head}
use Rattle.table.specs.declared.Row.{Row}
use Rattle.table.specs.Check.{some_row, some_pair, same_id}
use Rattle.refine.specs.Refine.{groups_of, row_in}
use Rattle.refine.proofs.Lookup.{id_row}

-- the row stands in the first rows, or in the others
pub row_left : (x : ℕ) (s t : List Row) → 1 ≤ times x (groups_of s) → row_in x (s ++ t) ≡ row_in x s
row_left x [] t h = absurd (omega arith)
row_left x (w ∷ s) t h =
    (elim (eqb x w.id) as (λ b. 1 ≤ pick b 1 0 + times x (groups_of s) → cond b w (row_in x (s ++ t)) ≡ cond b w (row_in x s))
    [ true ↦ λ h. refl | false ↦ λ h. row_left x s t (omega arith) ]) h

pub row_right : (x : ℕ) (s t : List Row) → times x (groups_of s) ≡ 0 → row_in x (s ++ t) ≡ row_in x t
row_right x [] t h = refl
row_right x (w ∷ s) t h =
    (elim (eqb x w.id) as (λ b. pick b 1 0 + times x (groups_of s) ≡ 0 → cond b w (row_in x (s ++ t)) ≡ row_in x t)
    [ true ↦ λ h. absurd (omega arith) | false ↦ λ h. row_right x s t (omega arith) ]) h

-- the first of some rows, and the others
row_first : (w : Row) (t : List Row) → row_in w.id (w ∷ t) ≡ w
row_first w t = rw (eqb_same w.id)

row_later : (x : ℕ) (w : Row) (t : List Row) → x ≢ w.id → row_in x (w ∷ t) ≡ row_in x t
row_later x w t n = rw (ne_eqb x w.id n)

module _ (w : Row) (t : List Row) (d : Distinct (groups_of (w ∷ t))) where
  pub others_differ : (x : ℕ) → 1 ≤ times x (groups_of t) → x ≢ w.id
  others_differ x h e =
      let k : pick (eqb x w.id) 1 0 ≡ 1 = rw (e, eqb_same w.id) in
      omega (arith, d x)

  pub others_distinct : Distinct (groups_of t)
  others_distinct x = omega (arith, d x)

  later : (x : ℕ) → 1 ≤ times x (groups_of t) → row_in x (w ∷ t) ≡ row_in x t
  later x h = row_later x w t (others_differ x h)

-- a test that holds of no row
pub none_to : (p : Row → Bool) (t : List Row) → some_row p t ≡ false → (x : ℕ) → 1 ≤ times x (groups_of t) → p (row_in x t) ≡ false
unfolding some_row
none_to p [] h x k = absurd (omega arith)
none_to p (w ∷ t) h x k =
    let b = or_none (p w) _ h in
    (elim (eqb x w.id) as (λ c. 1 ≤ pick c 1 0 + times x (groups_of t) → p (cond c w (row_in x t)) ≡ false)
    [ true ↦ λ k. b.0 | false ↦ λ k. none_to p t b.1 x (omega arith) ]) k

pub none_from : (p : Row → Bool) (t : List Row) → Distinct (groups_of t) → ((x : ℕ) → 1 ≤ times x (groups_of t) → p (row_in x t) ≡ false) → some_row p t ≡ false
unfolding some_row
none_from p [] d h = refl
none_from p (w ∷ t) d h =
    let a : p w ≡ false = ap p (sym (row_first w t)) ∙ h w.id (count_head w.id (groups_of t)) in
    rw (a, none_from p t (others_distinct w t d) (λ x k. ap p (sym (later w t d x k)) ∙ h x (omega arith)))

-- a test that holds of no pair of rows
one_to : (p : Row → Row → Bool) (w : Row) (t : List Row) → some_row (p w) t ≡ false → some_pair p t ≡ false
    → ((x y : ℕ) → x ≢ y → 1 ≤ times x (groups_of t) → 1 ≤ times y (groups_of t) → (p (row_in x t) (row_in y t) ≡ false) ⊎ (p (row_in y t) (row_in x t) ≡ false))
    → (x y : ℕ) → x ≢ y → (a b : Bool) → eqb x w.id ≡ a → eqb y w.id ≡ b → 1 ≤ pick a 1 0 + times x (groups_of t) → 1 ≤ pick b 1 0 + times y (groups_of t)
    → (p (cond a w (row_in x t)) (cond b w (row_in y t)) ≡ false) ⊎ (p (cond b w (row_in y t)) (cond a w (row_in x t)) ≡ false)
one_to p w t h k ih x y n true true ex ey cx cy = absurd (n (eqb-true _ _ ex ∙ sym (eqb-true _ _ ey)))
one_to p w t h k ih x y n true false ex ey cx cy = inl (none_to (p w) t h y (omega arith))
one_to p w t h k ih x y n false true ex ey cx cy = inr (none_to (p w) t h x (omega arith))
one_to p w t h k ih x y n false false ex ey cx cy = ih x y n (omega arith) (omega arith)

pub pairs_to : (p : Row → Row → Bool) (t : List Row) → some_pair p t ≡ false
    → (x y : ℕ) → x ≢ y → 1 ≤ times x (groups_of t) → 1 ≤ times y (groups_of t) → (p (row_in x t) (row_in y t) ≡ false) ⊎ (p (row_in y t) (row_in x t) ≡ false)
unfolding some_pair
pairs_to p [] h x y n kx ky = absurd (omega arith)
pairs_to p (w ∷ t) h x y n kx ky =
    let b = or_none (some_row (p w) t) _ h in
    one_to p w t b.0 b.1 (pairs_to p t b.1) x y n (eqb x w.id) (eqb y w.id) refl refl kx ky

pub pairs_from : (p : Row → Row → Bool) (t : List Row) → Distinct (groups_of t)
    → ((x y : ℕ) → x ≢ y → 1 ≤ times x (groups_of t) → 1 ≤ times y (groups_of t) → p (row_in x t) (row_in y t) ≡ false) → some_pair p t ≡ false
unfolding some_pair
pairs_from p [] d h = refl
pairs_from p (w ∷ t) d h =
    let first = none_from (p w) t (others_distinct w t d)
    (λ y k. ap₂ p (sym (row_first w t)) (sym (later w t d y k)) ∙ h w.id y (λ e. others_differ w t d y k (sym e)) (count_head w.id (groups_of t)) (omega arith)) in
    rw (
      first,
      pairs_from p t (others_distinct w t d)
          (λ x y n kx ky. ap₂ p (sym (later w t d x kx)) (sym (later w t d y ky)) ∙ h x y n (omega arith) (omega arith)),
    )

pub distinct_ids : (t : List Row) → Distinct (groups_of t) → some_pair same_id t ≡ false
unfolding same_id
distinct_ids t d = pairs_from same_id t d (λ x y n kx ky. rw (id_row x t kx, id_row y t ky) (ne_eqb x y n))
