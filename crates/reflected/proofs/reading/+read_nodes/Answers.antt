-- The trees that are left, from here, make the whole, and those that are done stand in the places.
use Rattle.std.proofs.Common.{sym, arith}
use Rattle.std.proofs.lemmas.Result.{err_from_is_err_and}
use Rattle.reflected.proofs.NodeSteps.{node_full, node_deep, node_cut, below_refused}
use Rattle.reflected.proofs.Walking.{begin, refuse, ended, again, groups_bound, inner_bound, own_bound, inner_found, walk_refused}
use Rattle.reflected.proofs.reading.+read_nodes.Goals as goal

pub loop-done-init : goal.loop-done-init
loop-done-init t c = begin (omega arith) c.requires.0

pub returns-then-count-next : goal.returns-then-count-next
returns-then-count-next t c =
    let r = refuse c.loop-done.invariant _ (omega arith) (node_full _ _ _ _ _ (omega arith)) in
    record { result_value = r.0; walked = r.1 }

pub returns-then-room-eq0 : goal.returns-then-room-eq0
returns-then-room-eq0 t c =
    let r = refuse c.loop-done.invariant _ (omega arith) (node_deep _ _ _ _ _ (omega arith) (omega arith)) in
    record { result_value = r.0; walked = r.1 }

pub returns-in_err-node : goal.returns-in_err-node
returns-in_err-node t c =
    let r = refuse c.loop-done.invariant _ (omega arith) (node_cut _ _ _ _ _ (omega arith) (λ z. omega arith) (sym c.in_err-node.ensures)) in
    let p = err_from_is_err_and c.from_residual.result c.from_residual.ensures.1 in
    record { result_value = rw (p.1, p.2) r.0; walked = r.1 }

pub returns-in_err-below : goal.returns-in_err-below
returns-in_err-below t c =
    let r = refuse c.loop-done.invariant _ (omega arith)
    (below_refused _ _ _ _ _ (omega arith) (λ z. omega arith) (sym c.in_ok-node.ensures) (walk_refused _ c.in_err-below.ensures.result_value)) in
    let p = err_from_is_err_and c.from_residual-in_err-below.result c.from_residual-in_err-below.ensures.1 in
    record { result_value = rw (p.1, p.2) r.0; walked = r.1 }

pub overflow_add-whole : goal.overflow_add-whole
overflow_add-whole t c =
    let i = inner_found c.args.bytes.now c.args.room _ _ c.loop-done.next c.args.count _ _ _ _ _ c.in_ok-below.ensures.result_value c.in_ok-below.ensures.walked in
    omega (arith, inner_bound i c.requires.1, own_bound c.in_ok-node.node.children c.own_groups.ensures)

pub overflow_add-groups : goal.overflow_add-groups
overflow_add-groups t c =
    let i = inner_found c.args.bytes.now c.args.room _ _ c.loop-done.next c.args.count _ _ _ _ _ c.in_ok-below.ensures.result_value c.in_ok-below.ensures.walked in
    omega (arith, inner_bound i c.requires.1, own_bound c.in_ok-node.node.children c.own_groups.ensures, groups_bound c.loop-done.invariant c.requires.1)

pub loop-done-preserved : goal.loop-done-preserved
loop-done-preserved t c =
    let i = inner_found c.args.bytes.now c.args.room _ _ c.loop-done.next c.args.count _ _ _ _ _ c.in_ok-below.ensures.result_value c.in_ok-below.ensures.walked in
    again _ c.loop-done.invariant (omega arith) (omega arith) (λ z. omega arith) c.in_ok-node.ensures i c.own_groups.ensures

pub returns : goal.returns
returns t c = let r = ended c.loop-done.invariant (omega arith) in record { result_value = r.0; walked = r.1 }
