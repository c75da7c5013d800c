-- What the private contracts of replay cite.
use Rattle.std.specs.Prelude.{◌≡◌, false, ℕ, ◌≤◌, List, length, Result, Ok, Err}
use Rattle.rules.specs.Answers.{Answer, answer, refused}
use Rattle.rules.specs.Refusals.{refusal_number}
use Rattle.rules.specs.declared.Refusal.{Refusal}
use Rattle.rules.specs.Limits.{most_rows}
use Rattle.table.specs.Columns.{Columns}
use Rattle.request_log.specs.Log.{requests_at}
use Rattle.lines.specs.Lines.{columns_bad}
use Rattle.replay.specs.Replay.{Replay, replay_from, replay_of}

-- an answer that may be printed: a count that rows can have
abbrev pub Countable : Answer ℕ → Type 0
Countable (answer n) = n ≤ most_rows
Countable (refused n) = Unit {0}

-- the requests from a position of a log on, carried out on one row
abbrev pub carried : Columns → List ℕ → ℕ → Replay
carried c log from = replay_from (record { columns = c; count = 1 }) (requests_at log from)

-- what a log's fresh pair leaves of the columns c: one row, and the position of the requests; or the refusal, and the columns as they were
abbrev pub Begun : (c : Columns) → List ℕ → (d : Columns) → Result ℕ Refusal → Type 0
Begun c log d (Ok next) = (replay_of c log ≡ answer (carried d log next)) × (columns_bad d 1 ≡ false) × (next ≤ length log)
Begun c log d (Err why) = (replay_of c log ≡ refused (refusal_number why)) × (d ≡ c)
