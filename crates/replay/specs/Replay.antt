-- What a log leads to (RULES.md, 14.1): the table after it, and the text that is printed.
use Rattle.std.specs.Prelude.{ℕ, cond, leb, length, replicate, Option, Some, None}
use mathlib.Core.List.{List, [], ◌++◌, flat_map}
use Rattle.rules.specs.Answers.{Answer, answer, refused, then}
use Rattle.rules.specs.Buffers.{after}
use Rattle.rules.specs.Limits.{most_rows}
use Rattle.table.specs.Columns.{Columns, Table, columns, put, rows_in}
use Rattle.fresh.specs.Fresh.{fresh_rows}
use Rattle.request_log.specs.Log.{pair_of, Requests, requests_at}
use Rattle.request_log.specs.Room.{grow_room}
use Rattle.lines.specs.Lines.{line_text, table_text}
use Rattle.replay.specs.Run.{answers_to, table_end}

pub record Replay : Type 0 where
  pub table : Table
  pub text : List ℕ

-- a bad or overlong length prints its `no`
unfoldable pub end_text : Answer (Unit {0}) → List ℕ
end_text (answer _) = []
end_text (refused n) = line_text (refused n)

-- `ok` and the count, or `no` and the refusal, for each request; then a heading and each row
unfoldable pub replay_from : Table → Requests → Replay
replay_from t requests = record {
  table = table_end t requests.bytes;
  text = flat_map line_text (answers_to t requests.bytes) ++ (end_text requests.ended ++ table_text (rows_in (table_end t requests.bytes)));
}

-- the fresh pair, and then the requests
unfoldable pub replay_of : Columns → List ℕ → Answer Replay
replay_of c log =
    then (pair_of log) λ pair.
    then (fresh_rows c pair.id pair.quota) λ t.
    answer (replay_from (record { columns = put t c; count = length t }) (requests_at log pair.next))

-- what is printed: a bad fresh pair prints only its `no`
unfoldable pub text_of : Answer Replay → List ℕ
text_of (answer r) = r.text
text_of (refused n) = line_text (refused n)

-- the columns after it
unfoldable pub columns_after : Answer Replay → Columns → Columns
columns_after (answer r) c = r.table.columns
columns_after (refused n) c = c

-- the columns that the program `grow` begins with: of the most rows, and nobody wrote them yet
abbrev pub blank : Columns
blank = columns (replicate most_rows 0) (replicate most_rows 0) (replicate most_rows 0) (replicate most_rows 0)

abbrev pub grow_text : Columns → List ℕ → List ℕ
grow_text c log = text_of (replay_of c log)

abbrev pub grow_columns : Columns → List ℕ → Columns
grow_columns c log = columns_after (replay_of c log) c

-- the text with its byte count; no room where the buffer is shorter than that, and then nothing is carried out or written
unfoldable pub grow_answer : Columns → List ℕ → List ℕ → Option ℕ
grow_answer c log buffer = cond (leb (grow_room (length log)) (length buffer)) (Some (length (grow_text c log))) None

unfoldable pub grow_buffer : Columns → List ℕ → List ℕ → List ℕ
grow_buffer c log buffer = cond (leb (grow_room (length log)) (length buffer)) (after buffer 0 (grow_text c log)) buffer

unfoldable pub grow_table : Columns → List ℕ → List ℕ → Columns
grow_table c log buffer = cond (leb (grow_room (length log)) (length buffer)) (grow_columns c log) c
