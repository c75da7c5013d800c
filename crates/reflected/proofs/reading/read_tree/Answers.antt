-- The number of nodes, the nodes, and the first refusal met.
use Rattle.std.proofs.Common.{sym, ◌∙◌, arith}
use Rattle.std.proofs.lemmas.Result.{err_from_is_err_and}
use Rattle.reflected.proofs.Walking.{walk_refused}
use Rattle.reflected.proofs.Whole.{no_tree, tree_cut, count_bad, nodes_cut, nodes_left, remain, whole}
use Rattle.reflected.proofs.reading.read_tree.Goals as goal

pub returns-in_err-first : goal.returns-in_err-first
returns-in_err-first c =
    let p = err_from_is_err_and c.from_residual.result c.from_residual.ensures.1 in
    let r = no_tree c.args.nodes.now (tree_cut c.args.bytes.now (sym c.in_err-first.ensures)) in
    record { result_value = rw (p.1, p.2) r.0; tree_in = r.1 }

pub returns-then-node_count_bad : goal.returns-then-node_count_bad
returns-then-node_count_bad c =
    let r = no_tree c.args.nodes.now (count_bad c.args.bytes.now (sym c.in_ok-first.ensures) (sym c.node_count_bad.ensures ∙ c.if-node_count_bad.true)) in
    record { result_value = r.0; tree_in = r.1 }

pub returns-in_err-end : goal.returns-in_err-end
returns-in_err-end c =
    let p = err_from_is_err_and c.from_residual-in_err-end.result c.from_residual-in_err-end.ensures.1 in
    let r = no_tree c.read_nodes.new.nodes
    (nodes_cut c.args.bytes.now (sym c.in_ok-first.ensures) (sym c.node_count_bad.ensures ∙ c.if-node_count_bad.false) (walk_refused _ c.in_err-end.ensures.result_value)) in
    record { result_value = rw (p.1, p.2) r.0; tree_in = r.1 }

pub returns-then-end-count : goal.returns-then-end-count
returns-then-end-count c =
    let r = no_tree c.read_nodes.new.nodes
    (nodes_left c.args.bytes.now (sym c.in_ok-first.ensures) (sym c.node_count_bad.ensures ∙ c.if-node_count_bad.false) c.in_ok-end.ensures.result_value (omega arith)) in
    record { result_value = r.0; tree_in = r.1 }

pub returns-then-end-bytes : goal.returns-then-end-bytes
returns-then-end-bytes c =
    let r = no_tree c.read_nodes.new.nodes
    (remain c.args.bytes.now (sym c.in_ok-first.ensures) (sym c.node_count_bad.ensures ∙ c.if-node_count_bad.false) c.in_ok-end.ensures.result_value (omega arith) (omega arith)) in
    record { result_value = r.0; tree_in = r.1 }

pub returns : goal.returns
returns c =
    let r = whole c.args.bytes.now (sym c.in_ok-first.ensures) (sym c.node_count_bad.ensures ∙ c.if-node_count_bad.false) c.in_ok-end.ensures.result_value (omega arith) (omega arith)
    _ _ (omega arith) c.in_ok-end.ensures.walked in
    record { result_value = r.0; tree_in = r.1 }
