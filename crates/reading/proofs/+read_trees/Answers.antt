-- The trees that are left, from here, make the whole, and those that are done are written to the work columns.
use Rattle.std.proofs.Common.{sym, arith}
use Rattle.std.proofs.lemmas.Result.{err_from_is_err_and}
use Rattle.reading.proofs.Walking.{begin, refuse, ended, again, again_alone, sum_bound, inner_found, walk_refused}
use Rattle.request.proofs.TreeSteps.{tree_full, tree_deep, tree_cut, below_refused}
use Rattle.reading.proofs.+read_trees.Goals as goal
use Rattle.reading.proofs.+read_trees.Goals.{then-entry-eq0, else-entry-eq0+in_ok-below}

pub loop-done-init : goal.loop-done-init
loop-done-init t c = begin (omega arith) c.requires

pub returns-then-next-ge-MOST_ENTRIES : goal.returns-then-next-ge-MOST_ENTRIES
returns-then-next-ge-MOST_ENTRIES t c =
    let r = refuse c.loop-done.invariant _ (omega arith) (tree_full _ _ _ _ c.if-next-ge-MOST_ENTRIES.true) in
    record { result_value = r.0; walked = r.1 }

pub returns-then-room-eq0 : goal.returns-then-room-eq0
returns-then-room-eq0 t c =
    let r = refuse c.loop-done.invariant _ (omega arith) (tree_deep _ _ _ _ (omega arith) c.if-room-eq0.true) in
    record { result_value = r.0; walked = r.1 }

pub returns-in_err-entry : goal.returns-in_err-entry
returns-in_err-entry t c =
    let r = refuse c.loop-done.invariant _ (omega arith) (tree_cut _ _ _ _ (omega arith) (λ z. omega arith) (sym c.in_err-entry.ensures)) in
    let p = err_from_is_err_and c.from_residual.result c.from_residual.ensures.1 in
    record { result_value = rw (p.1, p.2) r.0; walked = r.1 }

pub overflow_add-sum : goal.overflow_add-sum
overflow_add-sum t c = omega (arith, sum_bound c.loop-done.invariant)

pub returns-in_err-below : goal.returns-in_err-below
returns-in_err-below t c =
    let r = refuse c.loop-done.invariant _ (omega arith)
    (below_refused _ _ _ _ (omega arith) (λ z. omega arith) (sym c.in_ok-entry.ensures) (walk_refused _ c.in_err-below.ensures.result_value)) in
    let p = err_from_is_err_and c.from_residual-in_err-below.result c.from_residual-in_err-below.ensures.1 in
    record { result_value = rw (p.1, p.2) r.0; walked = r.1 }

pub overflow_add-whole : goal.overflow_add-whole
overflow_add-whole t c =
    let i = inner_found c.args.bytes.now _ _ _ _ _ _ _ _ _ (λ k. omega (arith, c.type_inv.bytes k)) (omega arith)
    c.in_ok-below.ensures.result_value c.in_ok-below.ensures.walked in
    omega (arith, i.small, i.counted, i.most)

pub overflow_add-sum-else-entry-eq0 : goal.overflow_add-sum-else-entry-eq0
overflow_add-sum-else-entry-eq0 t c =
    let i = inner_found c.args.bytes.now _ _ _ _ _ _ _ _ _ (λ k. omega (arith, c.type_inv.bytes k)) (omega arith)
    c.in_ok-below.ensures.result_value c.in_ok-below.ensures.walked in
    omega (arith, i.small, i.counted, i.most, sum_bound c.loop-done.invariant)

pub loop-done-preserved : goal.loop-done-preserved
loop-done-preserved t c =
    elim c.if-entry-eq0.branch [
      | then-entry-eq0 w ↦
          rw (w.work-is, w.place-is, w.next-is, w.sum-is)
          (again_alone _ c.loop-done.invariant (omega arith) (omega arith) (λ z. omega arith) c.in_ok-entry.ensures (omega arith) w.if-entry-eq0.true)
      | else-entry-eq0+in_ok-below w ↦
          let i = inner_found c.args.bytes.now _ _ _ _ _ _ _ _ _ (λ k. omega (arith, c.type_inv.bytes k)) (omega arith)
          w.in_ok-below.ensures.result_value w.in_ok-below.ensures.walked in
          rw (w.work-is, w.place-is, w.next-is, w.sum-is)
          (again _ c.loop-done.invariant (omega arith) (omega arith) (λ z. omega arith) c.in_ok-entry.ensures (omega arith) i)
    ]

pub returns : goal.returns
returns t c = let r = ended c.loop-done.invariant (omega arith) in record { result_value = r.0; walked = r.1 }
