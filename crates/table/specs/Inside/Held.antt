-- Each column has so many numbers. The laws of rows speak of such columns.
use Rattle.std.specs.Prelude.{ℕ, ◌≤◌, length}
use Rattle.table.specs.Columns.{Columns}

pub record Holds (c : Columns) (count : ℕ) : Type 0 where
  pub in_id : count ≤ length c.id
  pub in_l : count ≤ length c.l
  pub in_r : count ≤ length c.r
  pub in_q : count ≤ length c.q
