-- What is known of the index of a number in a column.
use Rattle.std.specs.Prelude.{◌≡◌, List, ℕ, ◌≤◌, ◌<◌, get_or}

-- i is where a column's first n numbers have x first, or n where they don't have it
pub record PlaceIn (column : List ℕ) (n x i : ℕ) : Type 0 where
  pub most : i ≤ n
  pub there : i < n → get_or column i 0 ≡ x
  pub before : (k : ℕ) → k < i → get_or column k 0 ≡ x → ⊥
