-- The tree is read, its list is measured, and then it is written.
use Rattle.std.proofs.Common.{rules, sym, ◌∙◌}
use Rattle.std.proofs.lemmas.Result.{err_from_is_err_and}
use Rattle.reflected.proofs.Joined.{no_list, stored, short_list, whole_list}
use Rattle.reflected.proofs.reflected.Goals as goal

pub returns-in_err-count : goal.returns-in_err-count
returns-in_err-count c =
    let p = err_from_is_err_and c.from_residual.result c.from_residual.ensures.1 in
    let r = no_list c.args.bytes.now c.args.buffer.now c.in_err-count.ensures.result_value in
    record { result_value = rw (p.1, p.2) r.0; buffer_value = r.1 }

pub returns-then-too_short : goal.returns-then-too_short
returns-then-too_short c =
    let k = c.in_ok-count.ensures in
    let s = stored c.args.bytes.now c.args.buffer.now (k.result_value, k.tree_in) in
    let n = c.new-writer.ensures in
    let r = short_list c.args.bytes.now c.args.buffer.now (k.result_value, k.tree_in) (c.list_length-length.ensures s) (rw (n.0, n.1) at (sym c.too_short.ensures ∙ c.if-too_short.true)) in
    record { result_value = r.0; buffer_value = rw (← r.1) (search rules) }

pub returns : goal.returns
returns c =
    let k = c.in_ok-count.ensures in
    let s = stored c.args.bytes.now c.args.buffer.now (k.result_value, k.tree_in) in
    let n = c.new-writer.ensures in
    let t = rw (n.0, n.1) at (sym c.too_short.ensures ∙ c.if-too_short.false) in
    let w = rw (n.0, n.1) at ((c.write_list.ensures s).buffer) in
    let r = whole_list c.args.bytes.now c.args.buffer.now (k.result_value, k.tree_in) (c.list_length-length.ensures s) t w in
    record { result_value = r.0; buffer_value = rw (← r.1) (search rules) }
