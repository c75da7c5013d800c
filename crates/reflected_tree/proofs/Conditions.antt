-- Laws of Table 2's conditions, on the numbers alone.
use mathlib.Core.Path.{◌≡◌, refl, sym, ◌∙◌}
use mathlib.Core.Bool.{Bool, true, false, ◌||◌, or-true}
use mathlib.Core.List.{List}
use Prim.Native.Nat.{ℕ, ◌+◌, ◌≤◌, ◌<◌}
use native.Mathlib.Omega.{arith}
use lib.Dec.{eqb, ltb}
use borrow.Author.Tests.{lt-ltb, le-ltb, eq-eqb, ne_eqb}
use Rattle.rules.proofs.Cases.{by_lt, by_eq}
use Rattle.request.specs.Entries.{Entry, before}
use Rattle.request.proofs.Sums.{no_later, no_later_lem, later_l, later_r}
use Rattle.reflected_tree.specs.Table2.{condition}

-- one of the nodes is to the left of the other: earlier in L and later in R
cross_1 : (a b : Bool) (l r k s : ℕ) → l < k → s < r → condition a b l r k s ≡ false
cross_1 false false l r k s h j = rw (lt-ltb l k h, le-ltb r s (omega arith))
cross_1 false true l r k s h j = rw (lt-ltb l k h, le-ltb r s (omega arith), le-ltb k l (omega arith), ne_eqb k l (omega arith))
cross_1 true false l r k s h j = refl
cross_1 true true l r k s h j = rw (le-ltb k l (omega arith))

cross_2 : (a b : Bool) (l r k s : ℕ) → k < l → r < s → condition a b l r k s ≡ false
cross_2 false false l r k s h j = rw (le-ltb l k (omega arith))
cross_2 false true l r k s h j = rw (le-ltb l k (omega arith), lt-ltb k l h, le-ltb s r (omega arith), ne_eqb k l (omega arith))
cross_2 true false l r k s h j = refl
cross_2 true true l r k s h j = rw (lt-ltb k l h, le-ltb s r (omega arith))

-- an upper group whose node is above the other's, and a lower group whose node is below the other's
down : (a b : Bool) (l r k s : ℕ) → a ≡ false → l < k → r < s → condition a b l r k s ≡ true
down a false l r k s e h j = rw (e, lt-ltb l k h, lt-ltb r s j)
down a true l r k s e h j = rw (e, lt-ltb l k h, lt-ltb r s j)

up : (a b : Bool) (l r k s : ℕ) → b ≡ true → k < l → s < r → condition a b l r k s ≡ true
up false b l r k s e h j = rw (e, le-ltb l k (omega arith), lt-ltb k l h, lt-ltb s r j)
up true b l r k s e h j = rw (e, lt-ltb k l h, lt-ltb s r j)

no_up : (a b : Bool) (l r k s : ℕ) → b ≡ false → k < l → condition a b l r k s ≡ false
no_up false b l r k s e h = rw (e, le-ltb l k (omega arith))
no_up true b l r k s e h = rw e

no_down : (a b : Bool) (l r k s : ℕ) → a ≡ true → l < k → condition a b l r k s ≡ false
no_down a false l r k s e h = rw e
no_down a true l r k s e h = rw (e, le-ltb k l (omega arith))

pub own_image : (a b : Bool) (l r k s : ℕ) → a ≡ false → b ≡ true → l ≡ k → r ≡ s → condition a b l r k s ≡ true
own_image a b l r k s e f h j = rw (e, f, le-ltb l k (omega arith), le-ltb k l (omega arith), eq-eqb k l (omega arith), eq-eqb s r (omega arith))

turned : (a b : Bool) (l r k s : ℕ) → a ≡ true → b ≡ false → condition a b l r k s ≡ false
turned a b l r k s e f = rw (e, f)

ltb_shift : (i a b : ℕ) → ltb (i + a) (i + b) ≡ ltb a b
ltb_shift i a b = by_lt a b (λ h. rw (lt-ltb a b h) (lt-ltb (i + a) (i + b) (omega arith))) (λ h. rw (le-ltb a b h) (le-ltb (i + a) (i + b) (omega arith)))

eqb_shift : (i a b : ℕ) → eqb (i + a) (i + b) ≡ eqb a b
eqb_shift i a b = by_eq a b (λ h. rw (eq-eqb a b h) (eq-eqb (i + a) (i + b) (omega arith))) (λ h. rw (ne_eqb a b h) (ne_eqb (i + a) (i + b) (λ e. h (omega arith))))

shift : (a b : Bool) (i j l r k s : ℕ) → condition a b (i + l) (j + r) (i + k) (j + s) ≡ condition a b l r k s
shift false false i j l r k s = rw (ltb_shift i l k, ltb_shift j r s)
shift false true i j l r k s = rw (ltb_shift i l k, ltb_shift j r s, ltb_shift i k l, ltb_shift j s r, eqb_shift i k l, eqb_shift j s r)
shift true false i j l r k s = refl
shift true true i j l r k s = rw (ltb_shift i k l, ltb_shift j s r)

-- lr-values in a part, and in the whole
pub shifted : {a b a' b' : Bool} {l' r' k' s' : ℕ} (i j l r k s : ℕ) → a' ≡ a → b' ≡ b → l' ≡ i + l → r' ≡ j + r → k' ≡ i + k → s' ≡ j + s
    → condition a b l r k s ≡ condition a' b' l' r' k' s'
shifted {a} {b} i j l r k s e f p o m n = rw (e, f, p, o, m, n) (sym (shift a b i j l r k s))

-- what the sequences s and t say of x and y, and the table for their types and lr-values
module _ (x y : ℕ) (s t : List Entry) (a b : Bool) (l r k m : ℕ) where
  abbrev pub Says : Type 0
  Says = no_later (before x s) (before x t) (before y s) (before y t) ≡ (eqb x y || condition a b l r k m)

  yes : before x s ≤ before y s → before x t ≤ before y t → condition a b l r k m ≡ true → Says
  yes h j e = rw (no_later_lem h j, e) (sym (or-true (eqb x y)))

  no_l : before y s < before x s → condition a b l r k m ≡ false → Says
  no_l h e =
      rw (later_l (before x s) (before x t) (before y s) (before y t) h, e, ne_eqb x y (λ i. let z : before x s ≡ before y s = rw i in omega arith))

  no_r : before y t < before x t → condition a b l r k m ≡ false → Says
  no_r h e =
      rw (later_r (before x s) (before x t) (before y s) (before y t) h, e, ne_eqb x y (λ i. let z : before x t ≡ before y t = rw i in omega arith))

  -- one group
  pub says_same : x ≡ y → Says
  says_same e = rw e (no_later_lem (omega arith) (omega arith) ∙ rw (eq-eqb y y refl))

  -- x is y's mirror image, or y is x's
  pub says_mirror : before x s ≤ before y s → before x t ≤ before y t → a ≡ false → b ≡ true → l ≡ k → r ≡ m → Says
  says_mirror h j e f p q = yes h j (own_image a b l r k m e f p q)

  pub says_turned : before y s < before x s → a ≡ true → b ≡ false → Says
  says_turned h e f = no_l h (turned a b l r k m e f)

  -- x's node is above y's, or below it
  pub says_down : before x s ≤ before y s → before x t ≤ before y t → a ≡ false → l < k → r < m → Says
  says_down h j e p q = yes h j (down a b l r k m e p q)

  pub says_no_down : before y s < before x s → a ≡ true → l < k → Says
  says_no_down h e p = no_l h (no_down a b l r k m e p)

  pub says_up : before x s ≤ before y s → before x t ≤ before y t → b ≡ true → k < l → m < r → Says
  says_up h j e p q = yes h j (up a b l r k m e p q)

  pub says_no_up : before y s < before x s → b ≡ false → k < l → Says
  says_no_up h e p = no_l h (no_up a b l r k m e p)

  -- x's node is to the left of y's, or to the right of it
  pub says_left : before y t < before x t → l < k → m < r → Says
  says_left h p q = no_r h (cross_1 a b l r k m p q)

  pub says_right : before y s < before x s → k < l → r < m → Says
  says_right h p q = no_l h (cross_2 a b l r k m p q)
