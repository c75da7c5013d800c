-- Laws of bytes that are made for each member of a list, or for each number from one upward.
use mathlib.Core.Path.{◌≡◌, refl, ◌∙◌, ap, ap₂}
use mathlib.Core.List.{List, [], ◌∷◌, ◌++◌, map, flat_map, append-nil, Memᴰ}
use Prim.Native.Nat.{ℕ, zero, suc, ◌+◌, ◌*◌, ◌-◌, ◌≤◌}
use native.Mathlib.Nat.{mul-suc}
use native.Mathlib.Omega.{arith}
use lib.ListN.{length, length-append}
use Rattle.rules.proofs.Pieces.{flat_append, flat_more}
use Rattle.small.specs.Shapes.{up_from}

-- ## For each member

pub flat_flat : {A B : Type 0} (f : B → List ℕ) (g : A → List B) (l : List A) → flat_map f (flat_map g l) ≡ flat_map (λ x. flat_map f (g x)) l
unfolding flat_map
flat_flat f g [] = refl
flat_flat f g (x ∷ l) = flat_append f (g x) (flat_map g l) ∙ ap (λ (t : List ℕ). flat_map f (g x) ++ t) (flat_flat f g l)

pub flat_map_lem : {A B : Type 0} (f : B → List ℕ) (g : A → B) (l : List A) → flat_map f (map g l) ≡ flat_map (λ x. f (g x)) l
unfolding flat_map
flat_map_lem f g [] = refl
flat_map_lem f g (x ∷ l) = ap (λ (t : List ℕ). f (g x) ++ t) (flat_map_lem f g l)

module _ {A : Type 0} where
  pub flat_same : (f g : A → List ℕ) (l : List A) → ((x : A) → Memᴰ x l → f x ≡ g x) → flat_map f l ≡ flat_map g l
  unfolding flat_map
  flat_same f g [] h = refl
  flat_same f g (x ∷ l) h = ap₂ (λ a b. a ++ b) (h x (Memᴰ.head refl)) (flat_same f g l (λ y m. h y (Memᴰ.tail m)))

  pub flat_none : (f : A → List ℕ) (l : List A) → ((x : A) → Memᴰ x l → f x ≡ []) → flat_map f l ≡ []
  unfolding flat_map
  flat_none f [] h = refl
  flat_none f (x ∷ l) h = rw (h x (Memᴰ.head refl), flat_none f l (λ y m. h y (Memᴰ.tail m)))

  -- so many bytes for each
  pub flat_length : (f : A → List ℕ) (m : ℕ) (l : List A) → ((x : A) → Memᴰ x l → length (f x) ≡ m) → length (flat_map f l) ≡ m * length l
  unfolding flat_map
  flat_length f m [] h = omega arith
  flat_length f m (x ∷ l) h =
      omega (arith, length-append (f x) (flat_map f l), h x (Memᴰ.head refl), flat_length f m l (λ y i. h y (Memᴰ.tail i)), mul-suc m (length l))

-- ## For each number

up_split : (s k m : ℕ) → up_from s (k + m) ≡ up_from s k ++ up_from (s + k) m
up_split s zero m = let e : 0 + m ≡ m = omega arith in let d : s + 0 ≡ s = omega arith in rw (e, d)
up_split s (suc k) m =
    let e : suc k + m ≡ suc (k + m) = omega arith in
    let d : s + suc k ≡ suc s + k = omega arith in
    rw (e, d, up_split (suc s) k m)

-- one number more
pub up_more : (f : ℕ → List ℕ) (s k : ℕ) → flat_map f (up_from s (k + 1)) ≡ flat_map f (up_from s k) ++ f (s + k)
up_more f s k = ap (flat_map f) (up_split s k 1) ∙ flat_more f (up_from s k) (s + k)

-- numbers past the k-th that add nothing
pub up_part : (f : ℕ → List ℕ) (s k m : ℕ) → k ≤ m → ((j : ℕ) → Memᴰ j (up_from (s + k) (m - k)) → f j ≡ []) → flat_map f (up_from s m) ≡ flat_map f (up_from s k)
up_part f s k m h none =
    let e : m ≡ k + (m - k) = omega arith in
    ap (λ (n : ℕ). flat_map f (up_from s n)) e
    ∙ ap (flat_map f) (up_split s k (m - k))
    ∙ flat_append f (up_from s k) (up_from (s + k) (m - k))
    ∙ rw (flat_none f (up_from (s + k) (m - k)) none) (append-nil (flat_map f (up_from s k)))
