-- The room for a log's text, by what is left for the lines.
use mathlib.Core.Path.{◌≡◌, sym, ◌∙◌}
use Prim.Native.Nat.{ℕ, ◌+◌, ◌*◌, ◌-◌, ◌/◌, ◌≤◌}
use native.Mathlib.Omega.{arith}
use lib.Dec.{ltb}
use borrow.Author.Tests.{lt-ltb, le-ltb}
use Rattle.rules.proofs.Cases.{by_lt}
use Rattle.request_log.specs.Room.{line_room, table_room, grow_room}

pub room_same : (room bytes : ℕ) → table_room ≤ room → ltb ((room - table_room) / line_room) bytes ≡ ltb room (grow_room bytes)
unfolding grow_room
room_same room bytes h =
    by_lt room (line_room * bytes + table_room)
    (λ k. lt-ltb ((room - table_room) / line_room) bytes (omega arith) ∙ sym (lt-ltb room (line_room * bytes + table_room) k))
    (λ k. le-ltb ((room - table_room) / line_room) bytes (omega arith) ∙ sym (le-ltb room (line_room * bytes + table_room) k))
