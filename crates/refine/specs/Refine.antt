-- Refine (RULES.md, 7): the table's rows after an accepted request.
use Rattle.std.specs.Prelude.{cond, List, [], ◌∷◌, ◌++◌, map, ℕ, ◌+◌, eqb, length}
use Rattle.rules.specs.Answers.{Answer, answer, then, or_else}
use Rattle.request.specs.Entries.{Entry, entry, entry_of, quota, before, without}
use Rattle.request.specs.Request.{Request, entries, left_of, right_of}
use Rattle.request.specs.Reading.{request_of}
use Rattle.request.specs.Acceptance.{accepted}
use Rattle.table.specs.declared.Row.{Row}
use Rattle.table.specs.Columns.{low_l, low_r, size_of, Columns, Table, counted, afterwards}
use Rattle.table.specs.Check.{checked}

-- a row's group: its id and its quota
abbrev pub group_of : Row → Entry
group_of w = entry w.id (size_of w)

abbrev pub groups_of : List Row → List Entry
groups_of t = map (λ w. group_of w) t

-- the row of the group x (zeros where it is not there)
abbrev pub row_in : ℕ → List Row → Row
row_in x [] = record { id = 0; l = 0; r = 0; q = 0 }
row_in x (w ∷ t) = cond (eqb x w.id) w (row_in x t)

-- the row of an entry, w being that of the exploded group: new l = old l of the exploded group + quotas before the entry in L; new r
-- likewise with R
abbrev pub row_for : Request → Row → Entry → Row
row_for q w e = record { id = e.id; l = low_l w + before e.id (left_of q); r = low_r w + before e.id (right_of q); q = quota e }

-- the exploded id keeps its row
abbrev pub kept_row : Request → Row → Row
kept_row q w = cond (eqb q.exploded w.id) (row_for q w (entry_of q.exploded (entries q))) w

abbrev pub kept_rows : Request → List Row → List Row
kept_rows q t = map (λ w. kept_row q w) t

-- the other entries take the next rows in the request's order
abbrev pub new_rows : Request → List Row → List Row
new_rows q t = map (row_for q (row_in q.exploded t)) (without q.exploded (entries q))

unfoldable pub refine_rows : Request → List Row → List Row
refine_rows q t = kept_rows q t ++ new_rows q t

-- the rows after a request that was read: 20 to 26, or the new rows
unfoldable pub exploded_rows : ℕ → List Row → Request → Answer (List Row)
exploded_rows room t q = then (accepted room (groups_of t) q) λ _. answer (refine_rows q t)

-- 10 to 13 in that order, the request from left to right, then 20, 21, 22, 26, 23, 24
unfoldable pub refined : Columns → ℕ → List ℕ → Answer (List Row)
refined c count bytes = then (checked c count) λ t. then (request_of bytes) λ q. exploded_rows (length c.id) t q

-- a table that is handed on from request to request: the answer is the new count, or the refusal
abbrev pub answer_to : Table → List ℕ → Answer ℕ
answer_to t request = counted (refined t.columns t.count request)

-- the table after a request; a refused one changes neither the columns nor the count
abbrev pub table_after : Table → List ℕ → Table
table_after t request = record {
  columns = afterwards (refined t.columns t.count request) t.columns;
  count = or_else (answer_to t request) t.count;
}
