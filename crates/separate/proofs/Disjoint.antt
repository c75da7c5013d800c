-- Boxes that are disjoint two by two, by their places.
use Rattle.std.proofs.Common.{◌≡◌, ℕ, zero, suc, ◌<◌, ◌≤◌, min, true, false, List, [], ◌∷◌, length, refl, arith}
use mathlib.Core.Bool.{and-false}
use Rattle.boxes.specs.Boxes.{box_of, disjoint}
use Rattle.boxes.specs.declared.Box.{Box}
use Rattle.separate.specs.Separate.{boxes_of, none_meets, all_disjoint}
use Rattle.separate.specs.Inside.Certificate.{AllApart}
use Rattle.separate.specs.Inside.Pairs.{box_at}

-- row i is in all three columns
pub record In (l r q : List ℕ) (i : ℕ) : Type 0 where
  pub in_l : i < length l
  pub in_r : i < length r
  pub in_q : i < length q

in_top : {x y z : ℕ} {l r q : List ℕ} → In (x ∷ l) (y ∷ r) (z ∷ q) 0
in_top = record { in_l = omega arith; in_r = omega arith; in_q = omega arith }

in_more : {x y z : ℕ} {l r q : List ℕ} {j : ℕ} → In l r q j → In (x ∷ l) (y ∷ r) (z ∷ q) (suc j)
in_more h = record { in_l = omega (arith, h.in_l); in_r = omega (arith, h.in_r); in_q = omega (arith, h.in_q) }

in_less : {x y z : ℕ} {l r q : List ℕ} {j : ℕ} → In (x ∷ l) (y ∷ r) (z ∷ q) (suc j) → In l r q j
in_less h = record { in_l = omega (arith, h.in_l); in_r = omega (arith, h.in_r); in_q = omega (arith, h.in_q) }

-- below the least of the three lengths, and above each row of all three
module _ (l r q : List ℕ) (i : ℕ) where
  pub in_all : i < min (min (length l) (length r)) (length q) → In l r q i
  in_all h = record { in_l = omega arith; in_r = omega arith; in_q = omega arith }

  pub in_below : {j : ℕ} → min (min (length l) (length r)) (length q) ≤ i → In l r q j → j < i
  in_below {j} h n = omega (arith, n.in_l, n.in_r, n.in_q)

none_meets_lem : (b : Box) (l r q : List ℕ) → ((j : ℕ) → In l r q j → disjoint b (box_at l r q j) ≡ true) → none_meets b (boxes_of l r q) ≡ true
unfolding none_meets boxes_of
none_meets_lem b [] r q f = refl
none_meets_lem b (x ∷ l) [] q f = refl
none_meets_lem b (x ∷ l) (y ∷ r) [] f = refl
none_meets_lem b (x ∷ l) (y ∷ r) (z ∷ q) f = rw (f 0 in_top, none_meets_lem b l r q (λ j h. f (suc j) (in_more h)))

some_meets : (b : Box) (l r q : List ℕ) (j : ℕ) → In l r q j → disjoint b (box_at l r q j) ≡ false → none_meets b (boxes_of l r q) ≡ false
unfolding none_meets boxes_of
some_meets b [] r q j h e = absurd (omega (arith, h.in_l))
some_meets b (x ∷ l) [] q j h e = absurd (omega (arith, h.in_r))
some_meets b (x ∷ l) (y ∷ r) [] j h e = absurd (omega (arith, h.in_q))
some_meets b (x ∷ l) (y ∷ r) (z ∷ q) zero h e = rw e
some_meets b (x ∷ l) (y ∷ r) (z ∷ q) (suc j) h e = rw (some_meets b l r q j (in_less h) e) (and-false (disjoint b (box_of x y z)))

pub all_disjoint_lem : (l r q : List ℕ) → ((j : ℕ) → In l r q j → (i : ℕ) → i < j → disjoint (box_at l r q i) (box_at l r q j) ≡ true) → all_disjoint (boxes_of l r q) ≡ true
unfolding all_disjoint boxes_of
all_disjoint_lem [] r q f = refl
all_disjoint_lem (x ∷ l) [] q f = refl
all_disjoint_lem (x ∷ l) (y ∷ r) [] f = refl
all_disjoint_lem (x ∷ l) (y ∷ r) (z ∷ q) f =
    rw (none_meets_lem (box_of x y z) l r q (λ j h. f (suc j) (in_more h) 0 (omega arith)), all_disjoint_lem l r q (λ j h i k. f (suc j) (in_more h) (suc i) (omega arith)))

pub two_meet : (l r q : List ℕ) (i j : ℕ) → i < j → In l r q j → disjoint (box_at l r q i) (box_at l r q j) ≡ false → all_disjoint (boxes_of l r q) ≡ false
unfolding all_disjoint boxes_of
two_meet [] r q i j k h e = absurd (omega (arith, h.in_l))
two_meet (x ∷ l) [] q i j k h e = absurd (omega (arith, h.in_r))
two_meet (x ∷ l) (y ∷ r) [] i j k h e = absurd (omega (arith, h.in_q))
two_meet (x ∷ l) (y ∷ r) (z ∷ q) i zero k h e = absurd (omega arith)
two_meet (x ∷ l) (y ∷ r) (z ∷ q) zero (suc j) k h e = rw (some_meets (box_of x y z) l r q j (in_less h) e)
two_meet (x ∷ l) (y ∷ r) (z ∷ q) (suc i) (suc j) k h e = rw (two_meet l r q i j (omega arith) (in_less h) e) (and-false (none_meets (box_of x y z) (boxes_of l r q)))

-- boxes whose l ranges and r ranges are disjoint
pub certified : (l r q : List ℕ) → AllApart l q (length l) → AllApart r q (length r) → all_disjoint (boxes_of l r q) ≡ true
unfolding disjoint
certified l r q f g = all_disjoint_lem l r q (λ j h i k. rw (f j h.in_l i k, g j h.in_r i k))
