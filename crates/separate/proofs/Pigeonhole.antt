-- Numbers below n, as many, no two of them equal: every number below n is one of them.
use Rattle.std.proofs.Common.{◌≡◌, ℕ, zero, suc, ◌<◌, eqb, sym, ◌∙◌, arith, eq-eqb, ne_eqb}
use Rattle.rules.specs.Pick.{pick}
use Rattle.rules.proofs.Cases.{by_eq}

-- the last of them in the place of m
unfoldable moved : ℕ → (ℕ → ℕ) → ℕ → ℕ
moved m f k = pick (eqb (f k) m) (f m) (f k)

moved_there : (m : ℕ) (f : ℕ → ℕ) (k : ℕ) → f k ≡ m → moved m f k ≡ f m
unfolding moved
moved_there m f k e = rw (eq-eqb (f k) m e)

moved_not : (m : ℕ) (f : ℕ → ℕ) (k : ℕ) → (f k ≡ m → ⊥) → moved m f k ≡ f k
unfolding moved
moved_not m f k e = rw (ne_eqb (f k) m e)

module _ (m : ℕ) (f : ℕ → ℕ) (w : (k : ℕ) → k < suc m → f k < suc m) (d : (a b : ℕ) → a < b → b < suc m → f a ≡ f b → ⊥) where
  moved_below : (k : ℕ) → k < m → moved m f k < m
  moved_below k l =
      by_eq (f k) m
      (λ e. let x : f m ≡ m → ⊥ = λ z. d k m l (omega arith) (e ∙ sym z) in omega (arith, moved_there m f k e, w m (omega arith)))
      (λ e. omega (arith, moved_not m f k e, w k (omega arith)))

  moved_once : (a b : ℕ) → a < b → b < m → moved m f a ≡ moved m f b → ⊥
  moved_once a b x y e =
      by_eq (f a) m
      (λ p. by_eq (f b) m
      (λ q. d a b x (omega arith) (p ∙ sym q))
      (λ q. d b m y (omega arith) (sym (sym (moved_there m f a p) ∙ e ∙ moved_not m f b q))))
      (λ p. by_eq (f b) m
      (λ q. d a m (omega arith) (omega arith) (sym (moved_not m f a p) ∙ e ∙ moved_there m f b q))
      (λ q. d a b x (omega arith) (sym (moved_not m f a p) ∙ e ∙ moved_not m f b q)))

  -- where the numbers below m are met, m and the last one are
  met_more : ((i : ℕ) → i < m → (k : ℕ) × (k < m) × (moved m f k ≡ i)) → (i : ℕ) → i < suc m → (k : ℕ) × (k < suc m) × (f k ≡ i)
  met_more met i h =
      by_eq (f m) i
      (λ e. (m, omega arith, e))
      (λ e. by_eq i m
      (λ z. last (met (f m) (omega (arith, w m (omega arith)))) z)
      (λ z. other (met i (omega arith)) e))
    where
      last : (k : ℕ) × (k < m) × (moved m f k ≡ f m) → i ≡ m → (k : ℕ) × (k < suc m) × (f k ≡ i)
      last (k, l, e) z = by_eq (f k) m (λ p. (k, omega arith, p ∙ sym z)) (λ p. absurd (d k m l (omega arith) (sym (moved_not m f k p) ∙ e)))

      other : (k : ℕ) × (k < m) × (moved m f k ≡ i) → (f m ≡ i → ⊥) → (k : ℕ) × (k < suc m) × (f k ≡ i)
      other (k, l, e) z = by_eq (f k) m (λ p. absurd (z (sym (moved_there m f k p) ∙ e))) (λ p. (k, omega arith, sym (moved_not m f k p) ∙ e))

pub every_met : (n : ℕ) (f : ℕ → ℕ) → ((k : ℕ) → k < n → f k < n) → ((a b : ℕ) → a < b → b < n → f a ≡ f b → ⊥) → (i : ℕ) → i < n → (k : ℕ) × (k < n) × (f k ≡ i)
every_met zero f w d i h = absurd (omega arith)
every_met (suc m) f w d i h = met_more m f w d (every_met m (moved m f) (moved_below m f w d) (moved_once m f w d)) i h
