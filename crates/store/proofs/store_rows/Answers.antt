-- `store::store_rows` meets its contract: the room is tested for all bytes, then the count is written and the rows after it.
use Rattle.std.proofs.Common.{rules, length, ap, sym, ◌∙◌, arith}
use Rattle.rules.specs.Answers.{answer}
use Rattle.rules.proofs.Buffers.{written_all, kept}
use Rattle.number.specs.Number.{bytes_of}
use Rattle.number.proofs.Laws.{number_count}
use Rattle.writer.proofs.Writing.{wrote_all}
use Rattle.store.proofs.Writing.{bytes_most, whole_count, whole_written}
use Rattle.store.proofs.store_rows.Goals as goal

pub overflow_add-whole : goal.overflow_add-whole
overflow_add-whole c = omega (arith, number_count c.len-count.result, bytes_most c.args.rows)

pub returns-then-buffer-whole : goal.returns-then-buffer-whole
returns-then-buffer-whole c =
    let e = ap (λ n. length (bytes_of n)) c.len-count.ensures in
    let p = kept _ _ _ (omega (arith, whole_count c.args.rows)) in
    record { result_value = p.0; buffer_value = p.1 }

pub write_rows-requires : goal.write_rows-requires
write_rows-requires c =
    let e = ap (λ n. length (bytes_of n)) c.len-count.ensures in
    let t = whole_count c.args.rows in
    let n = c.new-writer.ensures in
    let l = ap (λ b. length b.now) n.0 in
    let w = wrote_all c.write_number.ensures.wrote (omega arith) in
    omega (arith, w.place, w.same_length)

pub returns : goal.returns
returns c =
    let e = ap (λ n. length (bytes_of n)) c.len-count.ensures in
    let t = whole_count c.args.rows in
    let n = c.new-writer.ensures in
    let l = ap (λ b. length b.now) n.0 in
    let w = whole_written c.args.rows (rw c.len-count.ensures at c.write_number.ensures.wrote) c.write_rows.ensures (omega arith) in
    record {
      result_value = ap answer (omega arith) ∙ sym (written_all _ _ _ (omega arith));
      buffer_value = rw (← (rw (n.0, n.1) at w.buffer)) (search rules);
    }
