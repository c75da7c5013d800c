-- A group replaced in a sequence by entries of the same quota: what stands before the others does not change.
use mathlib.Core.Path.{◌≡◌, refl, ap, sym, ◌∙◌}
use mathlib.Core.Bool.{true, false, cond}
use mathlib.Core.List.{List, [], ◌∷◌, ◌++◌}
use mathlib.Core.Logic.{◌≢◌}
use Prim.Native.Nat.{ℕ, ◌+◌, ◌≤◌}
use native.Mathlib.Omega.{arith}
use native.Mathlib.Decide.{ℕ_discrete}
use lib.Dec.{eqb}
use borrow.Author.Tests.{eqb-true, eq-eqb, ne_eqb}
use Rattle.request.specs.Entries.{Entry, pick, quota, sum, total, times, quota_of, before}
use Rattle.request.proofs.Sums.{sum_append, before_left, before_right, before_past, quota_none}
use Rattle.promises.proofs.Without.{but, sum_none}
use Rattle.ledger.specs.Ledger.{replace}

pub sum_replace : (f : Entry → ℕ) (u : ℕ) (new s : List Entry) → times u s ≡ 1 → sum f (replace u new s) ≡ sum (but u f) s + sum f new
unfolding replace
sum_replace f u new [] h = absurd (omega arith)
sum_replace f u new (e ∷ s) h =
    (elim (eqb u e.id) as (λ b. pick b 1 0 + times u s ≡ 1 → sum f (cond b (new ++ s) (e ∷ replace u new s)) ≡ pick b 0 (f e) + sum (but u f) s + sum f new)
    [ true ↦ λ h. omega (arith, sum_append f new s, sum_none f u s (omega arith)) | false ↦ λ h. omega (arith, sum_replace f u new s (omega arith)) ]) h

-- what stands before another group stays
pub before_other : (x u : ℕ) (new s : List Entry) → x ≢ u → times x new ≡ 0 → times u s ≡ 1 → total new ≡ quota_of u s
    → before x (replace u new s) ≡ before x s
unfolding replace
before_other x u new [] n z h t = refl
before_other x u new (e ∷ s) n z h t =
    (elim (eqb u e.id) as (λ b. eqb u e.id ≡ b → pick b 1 0 + times u s ≡ 1 → total new ≡ pick b (quota e) 0 + quota_of u s
    → before x (cond b (new ++ s) (e ∷ replace u new s)) ≡ before x (e ∷ s)) [
      | true ↦ λ p h t.
          omega (
            arith,
            before_right x new s z,
            quota_none u s (omega arith),
            before_past x e s (ne_eqb x e.id (λ k. n (k ∙ sym (eqb-true u e.id p)))),
          )
      | false ↦ λ p h t. ap (λ k. pick (eqb x e.id) 0 (quota e + k)) (before_other x u new s n z (omega arith) (omega arith))
    ]) refl h t

-- the new groups begin where u did
pub before_new : (x u : ℕ) (new s : List Entry) → (x ≢ u → times x s ≡ 0) → 1 ≤ times x new → times u s ≡ 1
    → before x (replace u new s) ≡ before u s + before x new
unfolding replace
before_new x u new [] n z h = absurd (omega arith)
before_new x u new (e ∷ s) n z h =
    (elim (eqb u e.id) as (λ b. eqb u e.id ≡ b → pick b 1 0 + times u s ≡ 1
    → before x (cond b (new ++ s) (e ∷ replace u new s)) ≡ pick b 0 (quota e + before u s) + before x new) [
      | true ↦ λ p h. omega (arith, before_left x new s z)
      | false ↦ λ p h.
          omega (
            arith,
            before_past x e (replace u new s) (miss p (ℕ_discrete x u)),
            before_new x u new s (λ k. omega (arith, n k)) z (omega arith),
          )
    ]) refl h
  where
    miss : eqb u e.id ≡ false → Dec (x ≡ u) → eqb x e.id ≡ false
    miss p (yes k) = rw k p
    miss p (no k) =
        ne_eqb x e.id (λ j. let i : pick (eqb x e.id) 1 0 ≡ 1 = rw (eq-eqb x e.id j) in omega (arith, n k))
