use Rattle.std.proofs.Common.{◌<◌, length, ◌∙◌, arith}
use Rattle.script_values.specs.Bytes.{given_by}
use Rattle.script_values.proofs.Laws.{until_more, one_more}
use Rattle.script_values.proofs.putting.put_until.Goals as goal

pub loop-n-preserved : goal.loop-n-preserved
loop-n-preserved c =
    let i = c.loop-n.invariant in
    let w = c.put_byte.ensures in
    let h : c.loop-n.writer.at < length c.loop-n.writer.buffer.now = omega (arith, i.place, i.same_length, c.loop-n-test.true, c.min-n-end.ensures) in
    let m = one_more _ (given_by c.loop-n.writer) h w.value in
    record {
      place = omega (arith, m.0, i.place);
      same_length = m.1 ∙ i.same_length;
      same_reference = w.same_reference ∙ i.same_reference;
      same_bytes =
          until_more _ _ (given_by c.loop-n.writer) h (omega (arith, c.if-from-at.true, i.place)) (omega (arith, i.place, c.loop-n-test.true, c.min-n-end.ensures)) (omega (arith, c.if-from-at.true)) w.value
          ∙ i.same_bytes;
    }
