-- What is left to write makes the whole buffer.
use Rattle.std.proofs.Common.{◌+◌, ◌-◌, ◌≡◌, ◌∙◌, ap, sym, refl, arith, length, ltb, false, true, ltb-false}
use Rattle.rules.specs.Answers.{answer}
use Rattle.rules.proofs.Buffers.{written_all}
use Rattle.writer.proofs.Writing.{none_written, all_written, no_room_answer}
use Rattle.number.specs.Number.{bytes_of}
use Rattle.number.proofs.Laws.{number_count}
use Rattle.number.proofs.Writing.{begins, another, no_other, goes_on, ends}
use Rattle.number.proofs.write_number.Goals as goal

pub returns-then-too_short : goal.returns-then-too_short
returns-then-too_short c =
    let w = c.args.writer.now in
    let h : ltb (length w.buffer.now) (w.at + length (bytes_of c.args.value)) ≡ true =
    ap (λ n. ltb (length w.buffer.now) (w.at + n)) (sym c.number_length-count.ensures) ∙ sym c.too_short.ensures ∙ c.if-too_short.true in
    record { result_value = no_room_answer w.buffer.now w.at (bytes_of c.args.value) h; wrote = none_written w (bytes_of c.args.value) h }

pub overflow_sub-last : goal.overflow_sub-last
overflow_sub-last c = omega (arith, number_count c.args.value)

pub loop-i-init : goal.loop-i-init
loop-i-init c =
    record {
      writes = begins (omega arith) (omega (arith, ltb-false _ _ (sym c.too_short.ensures ∙ c.if-too_short.false)));
      same_reference = refl;
    }

pub loop-i-preserved : goal.loop-i-preserved
loop-i-preserved c =
    let w = c.loop-i.invariant.writes in
    record {
      writes = goes_on w (another w (omega (arith, number_count c.args.value)));
      same_reference = c.loop-i.invariant.same_reference;
    }

pub overflow_cast-writer-2 : goal.overflow_cast-writer-2
overflow_cast-writer-2 c = omega (arith, no_other c.loop-i.invariant.writes (omega (arith, number_count c.args.value, c.loop-i-test.false)))

pub bounds-writer-last : goal.bounds-writer-last
bounds-writer-last c =
    let w = c.loop-i.invariant.writes in
    omega (arith, number_count c.args.value, w.room, w.same)

pub returns : goal.returns
returns c =
    let w = c.loop-i.invariant.writes in
    let old = c.args.writer.now in
    let bytes = bytes_of c.args.value in
    let here : old.at + (c.number_length-count.result - 1) ≡ c.loop-i.i = omega (arith, number_count c.args.value) in
    let past : old.at + (c.number_length-count.result - 1) + 1 ≡ old.at + length bytes = omega (arith, number_count c.args.value, c.number_length-count.ensures) in
    let room : ltb (length old.buffer.now) (old.at + length bytes) ≡ false =
    ap (λ n. ltb (length old.buffer.now) (old.at + n)) (sym c.number_length-count.ensures) ∙ sym c.too_short.ensures ∙ c.if-too_short.false in
    record {
      result_value = ap answer c.number_length-count.ensures ∙ sym (written_all old.buffer.now old.at bytes w.room);
      wrote = all_written old _ bytes room (rw here (ends w (no_other w (omega (arith, number_count c.args.value))))) past c.loop-i.invariant.same_reference;
    }
