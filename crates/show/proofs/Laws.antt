-- Where the EE at the end of a buffer begin, byte by byte from there.
use Rattle.std.proofs.Common.{◌≡◌, ℕ, zero, suc, ◌+◌, ◌<◌, ◌≤◌, List, get_or, ap, ◌∙◌, refl, arith, eq-eqb, ne_eqb}
use Rattle.rules.proofs.Cases.{by_lt}
use Rattle.show.specs.Shown.{used_of}

module _ (n : ℕ) (s : List ℕ) where
  here : {k : ℕ} → n ≡ suc k → (get_or s k 0 ≡ 238 → ⊥) → used_of n s ≡ n
  unfolding used_of
  here m e = rw (m, ne_eqb _ _ e)

  before : {k : ℕ} → n ≡ suc k → get_or s k 0 ≡ 238 → used_of n s ≡ used_of k s
  unfolding used_of
  before m e = rw (m, eq-eqb _ _ e)

-- no byte but EE
pub used_all : (n : ℕ) (s : List ℕ) → ((k : ℕ) → k < n → get_or s k 0 ≡ 238) → used_of n s ≡ 0
unfolding used_of
used_all zero s h = refl
used_all (suc n) s h = before (suc n) s refl (h n (omega arith)) ∙ used_all n s (λ k l. h k (omega arith))

-- the last byte that is not
pub used_last : (n : ℕ) (s : List ℕ) (i : ℕ) → i < n → (get_or s i 0 ≡ 238 → ⊥) → ((k : ℕ) → i + 1 ≤ k → k < n → get_or s k 0 ≡ 238) → used_of n s ≡ i + 1
used_last zero s i less ne after = omega arith
used_last (suc n) s i less ne after =
    by_lt i n
    (λ h. before (suc n) s refl (after n (omega arith) (omega arith)) ∙ used_last n s i h ne (λ k a b. after k a (omega arith)))
    (λ h. let e : i ≡ n = omega arith in let f : suc n ≡ i + 1 = omega arith in here (suc n) s refl (λ x. ne (ap (λ k. get_or s k 0) e ∙ x)) ∙ f)
