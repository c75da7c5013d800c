-- The rows in use: the columns cut to the count, and what a check found of them.
use Rattle.std.specs.Prelude.{◌≡◌, ℕ, ◌-◌, ◌≤◌, Result, Ok, Err, List, length, take}
use Rattle.rules.specs.Answers.{Answer, answer, refused}
use Rattle.rules.specs.Refusals.{refusal_number}
use Rattle.rules.specs.declared.Refusal.{Refusal}
use Rattle.table.specs.Columns.{Columns, columns, rows_from, rows}
use Rattle.table.specs.declared.Row.{Row}
use Rattle.table.specs.declared.in_use.RowsInUse.{RowsInUse}
use Rattle.table.specs.declared.in_use.RowIter.{RowIter}

abbrev pub columns_of : RowsInUse → Columns
columns_of u = columns u.id.now u.l.now u.r.now u.q.now

abbrev pub rows_of : RowsInUse → List Row
rows_of u = rows (columns_of u) (length u.id.now)

-- the rows that an iterator has left
abbrev pub rows_left : RowIter → List Row
rows_left i = rows_from (columns_of i.rows) i.at (length i.rows.id.now - i.at)

-- what a check says: the rows in use, or the number of the refusal
abbrev pub found : Result RowsInUse Refusal → Answer (List Row)
found (Ok u) = answer (rows_of u)
found (Err why) = refused (refusal_number why)

-- these are the first `count` numbers of each column
pub record Cut (u : RowsInUse) (c : Columns) (count : ℕ) : Type 0 where
  pub id : u.id.now ≡ take count c.id
  pub l : u.l.now ≡ take count c.l
  pub r : u.r.now ≡ take count c.r
  pub q : u.q.now ≡ take count c.q
  pub within : count ≤ length c.id
  pub same_l : length c.l ≡ length c.id
  pub same_r : length c.r ≡ length c.id
  pub same_q : length c.q ≡ length c.id
