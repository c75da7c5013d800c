-- The certificate: the rows in an order in which each range ends before the next begins.
use Rattle.std.specs.Prelude.{◌≡◌, ℕ, ◌+◌, ◌<◌, ◌≤◌, true, List, slice_index}
use Rattle.coordinates.specs.Coordinates.{apart}

-- the k-th range of the order: its start, and one past its end
abbrev pub start_at : List ℕ → List ℕ → ℕ → ℕ
start_at start order k = slice_index start (slice_index order k)

abbrev pub past_at : List ℕ → List ℕ → List ℕ → ℕ → ℕ
past_at start size order k = slice_index start (slice_index order k) + slice_index size (slice_index order k)

-- the first n of an order of `count` rows: each is a row, whose range has a number, and ends before those after it begin
pub record InOrderTo (start size order : List ℕ) (count n : ℕ) : Type 0 where
  pub within : (a : ℕ) → a < n → slice_index order a < count
  pub some : (a : ℕ) → a < n → start_at start order a < past_at start size order a
  pub follows : (b : ℕ) → b < n → (a : ℕ) → a < b → past_at start size order a ≤ start_at start order b

abbrev pub InOrder : List ℕ → List ℕ → List ℕ → ℕ → Type 0
InOrder start size order count = InOrderTo start size order count count

-- of the first `count` ranges every two are disjoint
abbrev pub AllApart : List ℕ → List ℕ → ℕ → Type 0
AllApart start size count = (j : ℕ) → j < count → (i : ℕ) → i < j → apart (slice_index start i) (slice_index size i) (slice_index start j) (slice_index size j) ≡ true
