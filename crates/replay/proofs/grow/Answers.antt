-- `replay::grow`: the room, the fresh pair, and then the requests.
use mathlib.Core.Path.{sym}
use Rattle.std.proofs.Common.{rules}
use native.Mathlib.Omega.{arith}
use lib.ListN.{length}
use borrow.Author.Tests.{ltb-true, ltb-false}
use Rattle.table.specs.Columns.{columns}
use Rattle.request_log.specs.Room.{grow_room}
use Rattle.replay.proofs.Growing.{no_room, grows_bad, grows_good}
use Rattle.replay.proofs.grow.Goals as goal

pub returns-then-no_room : goal.returns-then-no_room
returns-then-no_room c =
    let a = c.args in
    let t = columns a.id.now a.l.now a.r.now a.q.now in
    let p = no_room t a.log.now a.text.now (ltb-true (length a.text.now) (grow_room (length a.log.now)) (sym c.if-no_room.ensures)) in
    record { value = p.0; text_value = p.1.0; q_value = p.1.1 }

-- there is room for any log of this length
pub write_answer-requires-clause-line_room_in_bounds : goal.write_answer-requires-clause-line_room_in_bounds
unfolding grow_room
write_answer-requires-clause-line_room_in_bounds c =
    let r = ltb-false (length c.args.text.now) (grow_room (length c.args.log.now)) (sym c.if-no_room.ensures) in
    let n = c.new-writer.ensures in
    rw (n.0, n.1) (omega arith)

-- no fresh table
pub returns-in-Err : goal.returns-in-Err
returns-in-Err c =
    let a = c.args in
    let t = columns a.id.now a.l.now a.r.now a.q.now in
    let r = ltb-false (length a.text.now) (grow_room (length a.log.now)) (sym c.if-no_room.ensures) in
    let bad = c.in-Err.ensures in
    let n = c.new-writer.ensures in
    let w = c.write_answer.ensures in
    let p = grows_bad t a.log.now a.text.now r bad.0 (rw (n.1) at w.place) (rw (n.0, n.1) at w.buffer) bad.1 in
    record { value = p.0; text_value = rw (← p.1.0) (search rules); q_value = p.1.1 }

-- the requests
pub carry_out-requires : goal.carry_out-requires
unfolding grow_room
carry_out-requires c =
    let r = ltb-false (length c.args.text.now) (grow_room (length c.args.log.now)) (sym c.if-no_room.ensures) in
    let n = c.new-writer.ensures in
    let good = c.in-Ok.ensures in
    record { q_value = good.1; from_in_bounds = good.2; start = n.1; table_room_in_bounds = rw (n.0) (omega arith) }

pub returns-in-Ok : goal.returns-in-Ok
returns-in-Ok c =
    let a = c.args in
    let t = columns a.id.now a.l.now a.r.now a.q.now in
    let r = ltb-false (length a.text.now) (grow_room (length a.log.now)) (sym c.if-no_room.ensures) in
    let n = c.new-writer.ensures in
    let w = c.carry_out.ensures in
    let p = grows_good t a.log.now a.text.now r c.in-Ok.ensures.0 w.value (rw (n.0) at w.text_value) w.q_value_2 in
    record { value = p.0; text_value = rw (← p.1.0) (search rules); q_value = p.1.1 }
