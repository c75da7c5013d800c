-- Sums over entries without an id.
use mathlib.Core.Path.{◌≡◌, refl, ap, ap₂, sym, ◌∙◌}
use mathlib.Core.Bool.{true, false, cond}
use mathlib.Core.List.{List, [], ◌∷◌}
use mathlib.Core.Logic.{◌≢◌}
use Prim.Native.Nat.{ℕ, ◌+◌}
use native.Mathlib.Omega.{arith}
use native.Mathlib.Nat.{zero-add}
use lib.Dec.{eqb}
use borrow.Author.Tests.{eqb-true, ne_eqb}
use Rattle.request.specs.Entries.{Entry, entry, entry_of, pick, sum, one_at, quota_at, times, quota_of, without}
use Rattle.request.proofs.Sums.{quota_none, sum_at}

-- f, but nothing at the id u
abbrev pub but : ℕ → (Entry → ℕ) → Entry → ℕ
but u f e = pick (eqb u e.id) 0 (f e)

pub sum_without : (f : Entry → ℕ) (u : ℕ) (s : List Entry) → sum f (without u s) ≡ sum (but u f) s
sum_without f u [] = refl
sum_without f u (e ∷ s) =
    elim (eqb u e.id) as (λ b. sum f (cond b (without u s) (e ∷ without u s)) ≡ pick b 0 (f e) + sum (but u f) s)
    [ true ↦ omega (arith, sum_without f u s) | false ↦ omega (arith, sum_without f u s) ]

pub sum_none : (f : Entry → ℕ) (u : ℕ) (s : List Entry) → times u s ≡ 0 → sum (but u f) s ≡ sum f s
sum_none f u [] h = refl
sum_none f u (e ∷ s) h =
    (elim (eqb u e.id) as (λ b. pick b 1 0 + times u s ≡ 0 → pick b 0 (f e) + sum (but u f) s ≡ f e + sum f s)
    [ true ↦ λ h. absurd (omega arith) | false ↦ λ h. omega (arith, sum_none f u s (omega arith)) ]) h

-- a sum, with u's part apart
pub sum_split : (f : Entry → ℕ) (u : ℕ) (s : List Entry) → times u s ≡ 1 → sum f s ≡ f (entry_of u s) + sum (but u f) s
sum_split f u [] h = absurd (omega arith)
sum_split f u (e ∷ s) h =
    (elim (eqb u e.id) as (λ b. eqb u e.id ≡ b → pick b 1 0 + times u s ≡ 1 → f e + sum f s ≡ f (entry u (pick b e.quota 0 + quota_of u s)) + (pick b 0 (f e) + sum (but u f) s)) [
      | true ↦ λ p h.
          let z : quota_of u s ≡ 0 = quota_none u s (omega arith) in
          let y : e.quota + quota_of u s ≡ e.quota = omega arith in
          let v : f (entry u (e.quota + quota_of u s)) ≡ f e = ap₂ (λ i k. f (entry i k)) (eqb-true u e.id p) y in
          omega (arith, sum_none f u s (omega arith))
      | false ↦ λ p h. omega (arith, sum_split f u s (omega arith), ap (λ k. f (entry u k)) (zero-add (quota_of u s)))
    ]) refl h

-- another id comes as often without u, with the same quota
module _ (x u : ℕ) (n : x ≢ u) where
  pick_but : (k : Entry → ℕ) (e : Entry) → but u (λ e. pick (eqb x e.id) (k e) 0) e ≡ pick (eqb x e.id) (k e) 0
  pick_but k e =
      (elim (eqb u e.id) as (λ b. eqb u e.id ≡ b → pick b 0 (pick (eqb x e.id) (k e) 0) ≡ pick (eqb x e.id) (k e) 0)
      [ true ↦ λ p. sym (ap (λ c. pick c (k e) 0) (ne_eqb x e.id (λ j. n (j ∙ sym (eqb-true u e.id p))))) | false ↦ λ p. refl ]) refl

module _ (x u : ℕ) (s : List Entry) (n : x ≢ u) where
  pub count_but : sum (but u (one_at x)) s ≡ times x s
  count_but = sum_at (but u (one_at x)) (one_at x) s (λ e _. pick_but x u n (λ _. 1) e)

  pub quotas_but : sum (but u (quota_at x)) s ≡ quota_of x s
  quotas_but = sum_at (but u (quota_at x)) (quota_at x) s (λ e _. pick_but x u n (λ e. e.quota) e)

  pub count_without : times x (without u s) ≡ times x s
  count_without = sum_without (one_at x) u s ∙ count_but

  pub quota_without : quota_of x (without u s) ≡ quota_of x s
  quota_without = sum_without (quota_at x) u s ∙ quotas_but
