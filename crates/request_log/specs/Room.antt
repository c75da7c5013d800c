-- The room that a log's text asks for, whatever the log.
use Rattle.std.specs.Prelude.{ℕ, ◌+◌, ◌*◌}

-- the room for the text of any log of this length: so much for each byte of the log, and for the table
abbrev pub line_room : ℕ
line_room = 14

abbrev pub table_room : ℕ
table_room = 16384

unfoldable pub grow_room : ℕ → ℕ
grow_room bytes = line_room * bytes + table_room
