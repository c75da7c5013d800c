-- What `grow` prints (RULES.md, 14.1): one space between fields, a line feed after every line.
use Rattle.std.specs.Prelude.{ℕ, Bool, cond, ◌||◌, length}
use mathlib.Core.List.{List, [], ◌∷◌, ◌++◌, flat_map}
use Rattle.rules.specs.Answers.{Answer, answer, refused}
use Rattle.rules.specs.Buffers.{written, after}
use Rattle.text.specs.Decimal.{decimal}
use Rattle.text.specs.Letters.{letters}
use Rattle.table.specs.Columns.{Columns, rows}
use Rattle.table.specs.declared.Row.{Row}
use Rattle.table.specs.Check.{lengths_bad, count_bad}

-- a number, and the byte after it: 32, a space, or 10, a line feed
unfoldable pub field_text : ℕ → ℕ → List ℕ
field_text n last = decimal n ++ (last ∷ [])

-- `ok` and the count, or `no` and the refusal
unfoldable pub line_text : Answer ℕ → List ℕ
line_text (answer n) = letters "ok " ++ field_text n 10
line_text (refused n) = letters "no " ++ field_text n 10

unfoldable pub heading_text : List ℕ
heading_text = letters "group l r quota\n"

-- a row as id, l, r, quota
unfoldable pub row_text : Row → List ℕ
row_text w = field_text w.id 32 ++ (field_text w.l 32 ++ (field_text w.r 32 ++ field_text w.q 10))

abbrev pub rows_text : List Row → List ℕ
rows_text t = flat_map row_text t

-- the heading and each row
unfoldable pub table_text : List Row → List ℕ
table_text t = heading_text ++ rows_text t

-- 10: the columns do not hold the count
abbrev pub columns_bad : Columns → ℕ → Bool
columns_bad c count = lengths_bad c || count_bad (length c.id) count

-- what is written of a table: its text; nothing where the columns do not hold the count
unfoldable pub held_text : Columns → ℕ → List ℕ
held_text c count = cond (columns_bad c count) [] (table_text (rows c count))

-- a table's writer: 10, then 30; refused, nothing is written
unfoldable pub table_answer : Columns → ℕ → List ℕ → ℕ → Answer ℕ
table_answer c count buffer at = cond (columns_bad c count) (refused 10) (written buffer at (table_text (rows c count)))

unfoldable pub table_buffer : Columns → ℕ → List ℕ → ℕ → List ℕ
table_buffer c count buffer at = cond (columns_bad c count) buffer (after buffer at (table_text (rows c count)))
