-- The refusals 20 to 26 (RULES.md, 7) as the code finds them, from the ids of the table's rows and of the entries.
use Rattle.std.specs.Prelude.{Bool, cond, not, ◌&&◌, List, ℕ, ◌+◌, ◌-◌, eqb, leb, ltb, length, get_or}
use Rattle.rules.specs.Answers.{Answer, answer, refused}
use Rattle.table.specs.Places.{place_of}
use Rattle.judging.specs.Ids.{times_in, some_id}

-- the row of the group u among the rows in use, or their number where it is not there
abbrev pub own_row : List ℕ → ℕ → ℕ
own_row id u = place_of id (length id) u

-- 22 for one entry's id x: it isn't the exploded id u, and it is in the table
abbrev pub taken_in : (u : ℕ) (id : List ℕ) → ℕ → Bool
taken_in u id x = not (eqb x u) && leb 1 (times_in x id)

-- 26 for one entry's id x: it isn't u, and it comes twice among the entries
abbrev pub twice_in : (u : ℕ) (ids : List ℕ) → ℕ → Bool
twice_in u ids x = not (eqb x u) && leb 2 (times_in x ids)

-- `id` and `q` are the rows in use of a table whose columns have `room` rows, `ids` are the ids of the entries, and `sum` is all their
-- quota; the answer is the row of the exploded group u
unfoldable pub judged_in : (id q : List ℕ) (room u : ℕ) (ids : List ℕ) (sum : ℕ) → Answer ℕ
judged_in id q room u ids sum =
    cond (eqb (own_row id u) (length id)) (refused 20)
    (cond (not (eqb (times_in u ids) 1)) (refused 21)
    (cond (some_id (taken_in u id) ids) (refused 22)
    (cond (some_id (twice_in u ids) ids) (refused 26)
    (cond (not (eqb sum (get_or q (own_row id u) 0))) (refused 23)
    (cond (ltb room (length id + length ids - 1)) (refused 24)
    (answer (own_row id u)))))))
