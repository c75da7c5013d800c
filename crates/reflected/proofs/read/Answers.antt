-- The tree, and then its ids.
use Rattle.std.proofs.Common.{arith}
use Rattle.std.proofs.lemmas.Result.{err_from_is_err_and}
use Rattle.reflected.proofs.Whole.{no_tree, no_ids, not_counted, within, repeated, unrepeated}
use Rattle.reflected.proofs.read.Goals as goal

pub returns-in_err-count : goal.returns-in_err-count
returns-in_err-count c =
    let p = err_from_is_err_and c.from_residual.result c.from_residual.ensures.1 in
    let r = no_tree c.read_tree.new.nodes (no_ids c.args.bytes.now (not_counted _ c.in_err-count.ensures.result_value)) in
    record { result_value = rw (p.1, p.2) r.0; tree_in = r.1 }

pub id_repeats-requires : goal.id_repeats-requires
id_repeats-requires c = omega (arith, within c.args.bytes.now (c.in_ok-count.ensures.result_value, c.in_ok-count.ensures.tree_in))

pub returns-then-id_repeats : goal.returns-then-id_repeats
returns-then-id_repeats c =
    let r = repeated c.args.bytes.now (c.in_ok-count.ensures.result_value, c.in_ok-count.ensures.tree_in) _ c.id_repeats.ensures c.if-id_repeats.true in
    record { result_value = r.0; tree_in = r.1 }

pub returns : goal.returns
returns c =
    let r = unrepeated c.args.bytes.now (c.in_ok-count.ensures.result_value, c.in_ok-count.ensures.tree_in) _ c.id_repeats.ensures c.if-id_repeats.false in
    record { result_value = r.0; tree_in = r.1 }
