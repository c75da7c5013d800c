use Rattle.std.proofs.Common.{◌+◌, ◌≡◌, ◌∙◌, length, ap, sym, refl, arith, ltb, ltb-false, true, false}
use Rattle.rules.specs.Answers.{answer}
use Rattle.rules.proofs.Buffers.{written_all}
use Rattle.writer.proofs.Writing.{none_written, all_written, no_room_answer}
use Rattle.text.specs.Decimal.{decimal}
use Rattle.text.proofs.Laws.{one_below_ten}
use Rattle.text.proofs.Writing.{begins, goes_on, ends}
use Rattle.text.proofs.write_decimal.Goals as goal

pub returns-then-n-lt10 : goal.returns-then-n-lt10
returns-then-n-lt10 c =
    let e = one_below_ten c.args.n c.if-n-lt10.true in
    record { result_value = rw e c.byte.ensures.value; wrote = rw e c.byte.ensures.wrote }

pub returns-then-too_short : goal.returns-then-too_short
returns-then-too_short c =
    let w = c.args.writer.now in
    let h : ltb (length w.buffer.now) (w.at + length (decimal c.args.n)) ≡ true =
    ap (λ n. ltb (length w.buffer.now) (w.at + n)) (sym c.decimal_length-count.ensures) ∙ sym c.too_short.ensures ∙ c.if-too_short.true in
    record { result_value = no_room_answer w.buffer.now w.at (decimal c.args.n) h; wrote = none_written w (decimal c.args.n) h }

pub loop-i-init : goal.loop-i-init
loop-i-init c =
    let e = c.decimal_length-count.ensures in
    record {
      writes = begins (omega arith) e (omega (arith, ltb-false _ _ (sym c.too_short.ensures ∙ c.if-too_short.false)));
      same_reference = refl;
    }

pub loop-i-preserved : goal.loop-i-preserved
loop-i-preserved c =
    record {
      writes = goes_on _ c.loop-i.invariant.writes (omega arith) (omega arith);
      same_reference = c.loop-i.invariant.same_reference;
    }

pub returns : goal.returns
returns c =
    let w = c.loop-i.invariant.writes in
    let old = c.args.writer.now in
    let bytes = decimal c.args.n in
    let room : ltb (length old.buffer.now) (old.at + length bytes) ≡ false =
    ap (λ n. ltb (length old.buffer.now) (old.at + n)) (sym c.decimal_length-count.ensures) ∙ sym c.too_short.ensures ∙ c.if-too_short.false in
    record {
      result_value = ap answer c.decimal_length-count.ensures ∙ sym (written_all old.buffer.now old.at bytes w.room);
      wrote = all_written old _ bytes room (ends w c.loop-i-test.false) (omega (arith, c.decimal_length-count.ensures)) c.loop-i.invariant.same_reference;
    }
