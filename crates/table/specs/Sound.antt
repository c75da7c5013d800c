-- A sound table (RULES.md, 3), said of groups and ranges.
use Rattle.std.specs.Prelude.{ℕ, ◌+◌, ◌-◌, ◌≤◌, ◌<◌, ◌≡◌, length}
use Rattle.rules.specs.Limits.{greatest, most_rows}
use Rattle.table.specs.Columns.{low_l, low_r, size_of, Columns, row_at}
use Rattle.table.specs.declared.Row.{Row}

-- n is in the range from a to a + q − 1
abbrev pub In : ℕ → ℕ → ℕ → Type 0
In n a q = (a ≤ n) × (n ≤ a + q - 1)

-- id, l, r and q are at least 1, and both ranges end at the greatest number or below
pub record SoundRow (w : Row) : Type 0 where
  pub id_some : 1 ≤ w.id
  pub l_some : 1 ≤ w.l
  pub r_some : 1 ≤ w.r
  pub q_some : 1 ≤ w.q
  pub l_end : low_l w + size_of w - 1 ≤ greatest
  pub r_end : low_r w + size_of w - 1 ≤ greatest

-- two groups: their ids differ, no number is in both l ranges, and none in both r ranges
pub record Apart (w v : Row) : Type 0 where
  pub ids : w.id ≡ v.id → ⊥
  pub l_ranges : (n : ℕ) → In n (low_l w) (size_of w) → In n (low_l v) (size_of v) → ⊥
  pub r_ranges : (n : ℕ) → In n (low_r w) (size_of w) → In n (low_r v) (size_of v) → ⊥

-- all columns have one length, 1 to 256
pub record Lengths (c : Columns) : Type 0 where
  pub in_l : length c.l ≡ length c.id
  pub in_r : length c.r ≡ length c.id
  pub in_q : length c.q ≡ length c.id
  pub some : 1 ≤ length c.id
  pub most : length c.id ≤ most_rows

-- the columns have such lengths, the count is 1 to the length, and the rows in use are sound and pairwise apart
pub record Sound (c : Columns) (count : ℕ) : Type 0 where
  pub lengths : Lengths c
  pub count_some : 1 ≤ count
  pub count_most : count ≤ length c.id
  pub row : (i : ℕ) → i < count → SoundRow (row_at c i)
  pub pair : (i j : ℕ) → i < j → j < count → Apart (row_at c i) (row_at c j)
