-- Work columns, and what the parts of reading find, from what they answer and the work columns after it.
use Rattle.std.specs.Prelude.{ℕ, List}
use lib.ListN.{set}
use Rattle.rules.specs.Answers.{Answer, answer, then}
use Rattle.table.specs.Columns.{Columns, columns, rows}
use Rattle.table.specs.declared.Row.{Row}
use Rattle.table.specs.Check.{sound_rows}
use Rattle.stored.specs.Stored.{Rows}
use Rattle.load.specs.declared.work.Work.{Work}

abbrev pub work_columns : Work → Columns
work_columns w = columns w.id w.l w.r w.q

-- row i becomes another
abbrev pub set_row : Columns → ℕ → Row → Columns
set_row c i w = columns (set c.id i w.id) (set c.l i w.l) (set c.r i w.r) (set c.q i w.q)

-- the rows that were read into work columns, and the position after them
abbrev pub rows_said : Answer ℕ → Columns → ℕ → Answer Rows
rows_said found c count = then found λ next. answer (record { rows = rows c count; next = next })

-- the rows that were read, and are still to pass the check
abbrev pub rows_unchecked : Answer (Unit {0}) → Columns → ℕ → Answer (List Row)
rows_unchecked found c count = then found λ _. sound_rows (rows c count)

-- the rows that were read and have passed the check
abbrev pub rows_checked : Answer (Unit {0}) → Columns → ℕ → Answer (List Row)
rows_checked verdict c count = then verdict λ _. answer (rows c count)
