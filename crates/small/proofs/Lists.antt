-- What stands in a list that is made of others, and when such a list is in order.
use mathlib.Core.Path.{◌≡◌, refl}
use mathlib.Core.Logic.{◌⊎◌, inl, inr, ∥∥₁_elim}
use mathlib.Core.List.Memᴰ
use mathlib.Core.List.{List, [], ◌∷◌, ◌++◌, map, flat_map, Memᴰ}
use mathlib.Core.List.Pairwise
use mathlib.Core.List.{Pairwise, rel_of_Pairwise-cons, Pairwise-append}
use Prim.Native.Nat.{ℕ, zero, suc, ◌+◌, ◌≤◌, ◌<◌}
use native.Mathlib.Omega.{arith}
use native.Mathlib.Bridge.{le_prop}
use Rattle.rules.proofs.Cases.{by_eq}
use Rattle.small.specs.Shapes.{up_from}

-- ## The numbers from k upward

pub up_in : (j k m : ℕ) → k ≤ j → j < k + m → Memᴰ j (up_from k m)
up_in j k zero a b = absurd (omega arith)
up_in j k (suc m) a b = by_eq j k (λ e. Memᴰ.head e) (λ e. Memᴰ.tail (up_in j (suc k) m (omega arith) (omega arith)))

pub in_up : (j k m : ℕ) → Memᴰ j (up_from k m) → (k ≤ j) × (j < k + m)
in_up j k zero h = absurd (Memᴰ.not-nil h)
in_up j k (suc m) h = go (in_up j (suc k) m) (Memᴰ.cases_cons h)
  where
    go : (Memᴰ j (up_from (suc k) m) → (suc k ≤ j) × (j < suc k + m)) → (j ≡ k) ⊎ Memᴰ j (up_from (suc k) m) → (k ≤ j) × (j < k + suc m)
    go below (inl e) = omega arith
    go below (inr i) = omega (arith, below i)

pub up_ordered : (k m : ℕ) → Pairwise ◌<◌ (up_from k m)
up_ordered k zero = Pairwise.nil
up_ordered k (suc m) =
    Pairwise.cons {a = k} (λ j h. ∥∥₁_elim h le_prop (λ i. (in_up j (suc k) m i).0)) (up_ordered (suc k) m)

-- ## A list for each member of another

module _ {A B : Type 0} (f : A → List B) where
  pub flat_in : {a : A} {b : B} (l : List A) → Memᴰ a l → Memᴰ b (f a) → Memᴰ b (flat_map f l)
  unfolding flat_map
  flat_in [] h k = absurd (Memᴰ.not-nil h)
  flat_in {a} {b} (x ∷ l) h k = go (λ i. flat_in l i k) (Memᴰ.cases_cons h)
    where
      go : (Memᴰ a l → Memᴰ b (flat_map f l)) → (a ≡ x) ⊎ Memᴰ a l → Memᴰ b (f x ++ flat_map f l)
      go below (inl e) = Memᴰ.append_left (flat_map f l) (rw e at k)
      go below (inr i) = Memᴰ.append_right (f x) (below i)

  pub in_flat : {b : B} (l : List A) → Memᴰ b (flat_map f l) → (a : A) × Memᴰ a l × Memᴰ b (f a)
  unfolding flat_map
  in_flat [] h = absurd (Memᴰ.not-nil h)
  in_flat {b} (x ∷ l) h = go (in_flat l) (Memᴰ.append_cases (f x) h)
    where
      go : (Memᴰ b (flat_map f l) → (a : A) × Memᴰ a l × Memᴰ b (f a)) → Memᴰ b (f x) ⊎ Memᴰ b (flat_map f l)
          → (a : A) × Memᴰ a (x ∷ l) × Memᴰ b (f a)
      go below (inl i) = (x, Memᴰ.head refl, i)
      go below (inr i) = let r = below i in (r.0, Memᴰ.tail r.1, r.2)

-- two lists in order, one before the other
module _ {B : Type 0} {R : B → B → Type 0} (prop : (x y : B) → IsProp (R x y)) where
  pub ordered_append : (s t : List B) → Pairwise R s → Pairwise R t → ((x y : B) → Memᴰ x s → Memᴰ y t → R x y) → Pairwise R (s ++ t)
  ordered_append s t p q h =
      (Pairwise-append prop).1 (p, q, λ x m y n. ∥∥₁_elim m (prop x y) (λ i. ∥∥₁_elim n (prop x y) (λ j. h x y i j)))

  module _ {A : Type 0} {S : A → A → Type 0} where
    pub ordered_flat : (f : A → List B) (l : List A) → Pairwise S l → ((a : A) → Pairwise R (f a))
        → ((a b : A) (x y : B) → S a b → Memᴰ x (f a) → Memᴰ y (f b) → R x y) → Pairwise R (flat_map f l)
    unfolding flat_map
    ordered_flat f [] p h k = Pairwise.nil
    ordered_flat f (a ∷ l) p h k =
        ordered_append (f a) (flat_map f l) (h a) (ordered_flat f l (Pairwise.of_cons p) h k)
        (λ x y i j. let r = in_flat f l j in k a r.0 x y (rel_of_Pairwise-cons p ∣ r.1 ∣₁) i r.2)

    pub ordered_map : (g : A → B) (l : List A) → ((a b : A) → Memᴰ a l → Memᴰ b l → S a b → R (g a) (g b)) → Pairwise S l → Pairwise R (map g l)
    ordered_map g l h p =
        Pairwise.map' g prop
        (Pairwise.imp_of_mem (λ a b m n s. ∥∥₁_elim m (prop (g a) (g b)) (λ i. ∥∥₁_elim n (prop (g a) (g b)) (λ j. h a b i j s))) p)
