use mathlib.Core.Path.{refl, sym, ◌∙◌}
use native.Mathlib.Omega.{arith}
use Rattle.request_log.proofs.Laws.{part_in}
use Rattle.replay.proofs.Running.{answer_countable, said_or}
use Rattle.replay.proofs.Carrying.{going_begins, going_same, line_room_lem, going_bad, going_on, table_fits, going_ends}
use Rattle.replay.proofs.carry_out.Goals as goal

pub loop-at-init : goal.loop-at-init
loop-at-init c =
    (refl, refl, refl, refl, refl, rw c.requires.start (going_begins c.requires.q_value c.requires.from_in_bounds c.requires.table_room_in_bounds))

-- a length is bad
pub write_answer-requires-clause-line_room_in_bounds : goal.write_answer-requires-clause-line_room_in_bounds
write_answer-requires-clause-line_room_in_bounds c = line_room_lem c.loop-at.invariant.5 c.loop-at-test.true

pub loop-at-preserved-in-Err : goal.loop-at-preserved-in-Err
loop-at-preserved-in-Err c =
    let i = c.loop-at.invariant in
    let w = c.write_answer.ensures in
    (i.0, i.1, i.2, i.3, w.same_reference ∙ i.4, going_bad i.5 c.loop-at-test.true (sym c.in-Err.ensures) w.place w.buffer)

-- a request is carried out
pub slice_bounds-request-start : goal.slice_bounds-request-start
slice_bounds-request-start c = (part_in _ _ _ (sym c.in-Ok.ensures)).1

pub slice_bounds-request-count : goal.slice_bounds-request-count
slice_bounds-request-count c = (part_in _ _ _ (sym c.in-Ok.ensures)).1

pub slice_bounds-request-end : goal.slice_bounds-request-end
slice_bounds-request-end c = (part_in _ _ _ (sym c.in-Ok.ensures)).2

pub write_answer-requires-in-Ok : goal.write_answer-requires-in-Ok
write_answer-requires-in-Ok c =
    let g = c.loop-at.invariant.5 in
    record { line_room_in_bounds = line_room_lem g c.loop-at-test.true; countable = rw c.refine-a.ensures.result_value (answer_countable _ _ g.held) }

pub loop-at-smaller : goal.loop-at-smaller
loop-at-smaller c = omega (arith, part_in _ _ _ (sym c.in-Ok.ensures))

pub loop-at-preserved : goal.loop-at-preserved
loop-at-preserved c =
    let i = c.loop-at.invariant in
    let f = c.refine-a in
    let w = c.write_answer-in-Ok.ensures in (
      f.auto.id ∙ i.0,
      f.auto.l ∙ i.1,
      f.auto.r ∙ i.2,
      f.auto.q ∙ i.3,
      w.same_reference ∙ i.4,
      going_on i.5 _ c.loop-at-test.true (sym c.in-Ok.ensures) _ f.ensures.result_value f.ensures.q_value (c.unwrap_or-count.ensures ∙ said_or c.refine-a.result c.loop-at.count) w.place w.buffer,
    )

-- the log ends
pub overflow_add-result : goal.overflow_add-result
overflow_add-result c =
    let g = c.loop-at.invariant.5 in
    omega (arith, going_same g, c.unwrap_or.ensures ∙ said_or c.write_table.result 0, table_fits g _ c.write_table.ensures.result_value)

pub returns : goal.returns
returns c =
    let w = c.write_table.ensures in
    let p = going_ends c.loop-at.invariant.5 _ w.result_value c.loop-at-test.false w.buffer_value (c.unwrap_or.ensures ∙ said_or c.write_table.result 0) in
    record { value = p.0; text_value = p.1.0; same_reference = w.wrote.same_reference ∙ c.loop-at.invariant.4; q_value_2 = p.1.1 }
