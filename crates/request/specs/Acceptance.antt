-- When a request is accepted, from the groups of a state and the room for them: the refusals 20 to 26 (RULES.md, 7).
use Rattle.std.specs.Prelude.{Bool, cond, not, ◌&&◌, List, ℕ, ◌+◌, ◌-◌, eqb, leb, ltb, length}
use Rattle.rules.specs.Answers.{Answer, answer, refused}
use Rattle.request.specs.Entries.{Entry, total, times, has, quota_of, some_entry}
use Rattle.request.specs.Request.{Request, entries}

-- 20: id named isn't in the table
abbrev pub id_unknown : List Entry → Request → Bool
id_unknown groups q = not (has q.exploded groups)

-- 21: exploded id isn't exactly one entry
abbrev pub not_one_entry : Request → Bool
not_one_entry q = not (eqb (times q.exploded (entries q)) 1)

-- 22: another entry's id is in the table
abbrev pub id_in_table : List Entry → Request → Bool
id_in_table groups q = some_entry (λ e. not (eqb e.id q.exploded) && has e.id groups) (entries q)

-- 26: another entry's id comes twice among the entries
abbrev pub id_twice : Request → Bool
id_twice q = some_entry (λ e. not (eqb e.id q.exploded) && leb 2 (times e.id (entries q))) (entries q)

-- 23: quotas don't add up
abbrev pub quotas_wrong : List Entry → Request → Bool
quotas_wrong groups q = not (eqb (total (entries q)) (quota_of q.exploded groups))

-- 24: count + entries − 1 exceeds the column length
abbrev pub rows_full : ℕ → List Entry → Request → Bool
rows_full room groups q = ltb room (length groups + length (entries q) - 1)

-- the first that is met counts
unfoldable pub accepted : ℕ → List Entry → Request → Answer Request
accepted room groups q =
    cond (id_unknown groups q) (refused 20)
    (cond (not_one_entry q) (refused 21)
    (cond (id_in_table groups q) (refused 22)
    (cond (id_twice q) (refused 26)
    (cond (quotas_wrong groups q) (refused 23)
    (cond (rows_full room groups q) (refused 24)
    (answer q))))))
