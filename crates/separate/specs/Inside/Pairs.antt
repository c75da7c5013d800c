-- What the search among the rows above row i says.
use Rattle.std.specs.Prelude.{◌≡◌, ℕ, ◌<◌, Bool, true, false, List, slice_index}
use Rattle.boxes.specs.Boxes.{box_of, disjoint}
use Rattle.boxes.specs.declared.Box.{Box}

-- row i's box
abbrev pub box_at : List ℕ → List ℕ → List ℕ → ℕ → Box
box_at l r q i = box_of (slice_index l i) (slice_index r i) (slice_index q i)

-- one of the boxes is not disjoint from the i-th, or all are
pub record BoxesAbove (l r q : List ℕ) (i : ℕ) (t : Bool) : Type 0 where
  pub meets : t ≡ true → (j : ℕ) × (j < i) × (disjoint (box_at l r q j) (box_at l r q i) ≡ false)
  pub clear : t ≡ false → (j : ℕ) → j < i → disjoint (box_at l r q j) (box_at l r q i) ≡ true
