-- The table (RULES.md, 3): four lent columns id, l, r, q, and a count of the rows in use. Rows past the count have no meaning.
use Rattle.std.specs.Prelude.{ℕ, zero, suc, List, [], ◌∷◌, ◌++◌, map, eqb, length, get_or, drop}
use Rattle.rules.specs.Pick.{pick}
use Rattle.rules.specs.Answers.{Answer, answer, refused, then}
use Rattle.table.specs.declared.Row.{Row}

-- a group's box (RULES.md, 3): where its l range and its r range begin, and its size
abbrev pub low_l : Row → ℕ
low_l w = w.l

abbrev pub low_r : Row → ℕ
low_r w = w.r

abbrev pub size_of : Row → ℕ
size_of w = w.q

-- the l and the r of the group x among some rows (0 where it is not there)
abbrev pub l_of : ℕ → List Row → ℕ
l_of x [] = 0
l_of x (w ∷ t) = pick (eqb x w.id) w.l (l_of x t)

abbrev pub r_of : ℕ → List Row → ℕ
r_of x [] = 0
r_of x (w ∷ t) = pick (eqb x w.id) w.r (r_of x t)

pub record Columns : Type 0 where
  pub id : List ℕ
  pub l : List ℕ
  pub r : List ℕ
  pub q : List ℕ

abbrev pub columns : List ℕ → List ℕ → List ℕ → List ℕ → Columns
columns id l r q = record { id = id; l = l; r = r; q = q }

abbrev pub row_at : Columns → ℕ → Row
row_at c i = record { id = get_or c.id i 0; l = get_or c.l i 0; r = get_or c.r i 0; q = get_or c.q i 0 }

-- `count` rows from row i on
unfoldable pub rows_from : Columns → ℕ → ℕ → List Row
rows_from c i zero = []
rows_from c i (suc count) = row_at c i ∷ rows_from c (suc i) count

-- the rows in use
abbrev pub rows : Columns → ℕ → List Row
rows c count = rows_from c 0 count

-- columns with a count of the rows in use
pub record Table : Type 0 where
  pub columns : Columns
  pub count : ℕ

abbrev pub rows_in : Table → List Row
rows_in s = rows s.columns s.count

-- one column with new values from the top, and its values past them
abbrev pub overlay : List ℕ → List ℕ → List ℕ
overlay new column = new ++ drop (length new) column

-- the columns with these rows from the top; rows past them stay
unfoldable pub put : List Row → Columns → Columns
put t c =
    columns (overlay (map (λ w. w.id) t) c.id)
    (overlay (map (λ w. w.l) t) c.l)
    (overlay (map (λ w. w.r) t) c.r)
    (overlay (map (λ w. w.q) t) c.q)

-- A call that writes rows finds the table's new rows or a refusal. Its answer is the new count;
-- the columns after it have the new rows, and after a refusal they are as they were.
abbrev pub counted : Answer (List Row) → Answer ℕ
counted found = then found λ t. answer (length t)

abbrev pub afterwards : Answer (List Row) → Columns → Columns
afterwards (answer t) c = put t c
afterwards (refused n) c = c
