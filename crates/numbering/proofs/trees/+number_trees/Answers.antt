-- What is left to number makes the whole.
use Rattle.std.proofs.Common.{◌∙◌, refl, ap₂, arith}
use Rattle.boxes.specs.declared.Box.{Box}
use Rattle.request.specs.Numbering.{lefts, rights}
use Rattle.reading.specs.Inside.Work.{direction_by}
use Rattle.numbering.proofs.NumberingLaws.{here, done, never, child_is, left_is, corner_there, place_is, inner_is}
use Rattle.numbering.proofs.NumberingLaws.{part_length, boxed_in, moves, moves_alone, children_back}
use Rattle.numbering.proofs.trees.+number_trees.Goals as goal
use Rattle.numbering.proofs.trees.+number_trees.Goals.{then-e-k, else-e-k+in-Some-corner}

-- its box is there to be cut off
pub returns-in_default : goal.returns-in_default
returns-in_default t c = let h = here c.loop-p.invariant c.loop-p-test.true in absurd (never h c.next_child.ensures h.sum_is c.in_default.is)

pub overflow_sub-e : goal.overflow_sub-e
overflow_sub-e t c = let h = here c.loop-p.invariant c.loop-p-test.true in omega (arith, h.behind, h.end_is)

-- its root's place, and the box that its children share
pub returns-in_default-corner : goal.returns-in_default-corner
returns-in_default-corner t c =
    let h = here c.loop-p.invariant c.loop-p-test.true in
    absurd (corner_there h _ (child_is h c.next_child.ensures h.sum_is c.in-Some.is) c.corner.ensures c.in_default-corner.is)

pub slice_bounds-number_trees-count : goal.slice_bounds-number_trees-count
slice_bounds-number_trees-count t c = let h = here c.loop-p.invariant c.loop-p-test.true in omega (arith, h.behind, h.end_is)

pub slice_bounds-number_trees-start : goal.slice_bounds-number_trees-start
slice_bounds-number_trees-start t c = let h = here c.loop-p.invariant c.loop-p-test.true in omega (arith, h.behind, h.end_is)

pub slice_bounds-number_trees-end : goal.slice_bounds-number_trees-end
slice_bounds-number_trees-end t c =
    let h = here c.loop-p.invariant c.loop-p-test.true in
    omega (arith, h.behind, h.end_is, h.ends_at, c.write-else-e-k.auto.column, h.l_length)

pub slice_bounds-number_trees-count-else-e-k : goal.slice_bounds-number_trees-count-else-e-k
slice_bounds-number_trees-count-else-e-k t c = let h = here c.loop-p.invariant c.loop-p-test.true in omega (arith, h.behind, h.end_is)

pub slice_bounds-number_trees-start-else-e-k : goal.slice_bounds-number_trees-start-else-e-k
slice_bounds-number_trees-start-else-e-k t c = let h = here c.loop-p.invariant c.loop-p-test.true in omega (arith, h.behind, h.end_is)

pub slice_bounds-number_trees-end-else-e-k : goal.slice_bounds-number_trees-end-else-e-k
slice_bounds-number_trees-end-else-e-k t c =
    let h = here c.loop-p.invariant c.loop-p-test.true in
    omega (arith, h.behind, h.end_is, h.ends_at, c.write-else-e-k-2.auto.column, h.r_length)

pub number_trees-requires : goal.number_trees-requires
number_trees-requires t c =
    let h = here c.loop-p.invariant c.loop-p-test.true in
    let cut = child_is h c.next_child.ensures h.sum_is c.in-Some.is in
    let b = c.write-else-e-k.auto.column in
    let d = c.write-else-e-k-2.auto.column in (
      omega (arith, h.behind, h.end_is, h.ends_at),
      (
        omega (arith, h.end_is, h.ends_at),
        boxed_in h _ _ _ _ _ h.end_is cut (inner_is h _ cut c.corner.ensures c.in-Some-corner.is)
            (part_length _ _ c.args.from _ h.behind (omega (arith, h.end_is)) (omega (arith, b, h.l_length, h.behind, h.end_is, h.ends_at)))
            (part_length _ _ c.args.from _ h.behind (omega (arith, h.end_is)) (omega (arith, d, h.r_length, h.behind, h.end_is, h.ends_at))),
      ),
    )

pub loop-p-smaller : goal.loop-p-smaller
loop-p-smaller t c = let h = here c.loop-p.invariant c.loop-p-test.true in omega (arith, h.end_is, h.ends_at)

pub loop-p-preserved : goal.loop-p-preserved
loop-p-preserved t c =
    let h = here c.loop-p.invariant c.loop-p-test.true in
    let cut = child_is h c.next_child.ensures h.sum_is c.in-Some.is in
    let left = left_is h c.next_child.ensures h.sum_is c.in-Some.is in
    elim c.if-e-k.branch [
      -- it is an entry alone
      | then-e-k w ↦
          rw (w.l-is, w.r-is)
          (moves_alone h _ _ _ _ _ _ _ refl refl h.end_is w.if-e-k.true cut left w.write.ensures w.write-then-e-k.ensures)
      | else-e-k+in-Some-corner w ↦
          let inner = inner_is h _ cut w.corner.ensures w.in-Some-corner.is in
          let up = direction_by c.args.upright in
          let back = children_back h _ h.end_is in
          rw (w.l-is, w.r-is)
          (moves h _ _ _ _ _ _ _ _ _ _ _ refl refl refl h.end_is cut left (place_is h _ cut w.corner.ensures w.in-Some-corner.is) w.write-else-e-k.ensures w.write-else-e-k-2.ensures
          (w.number_trees.ensures.l_value ∙ ap₂ (λ (z : Box) f. lefts up z.l.0 f) inner back)
          (w.number_trees.ensures.r_value ∙ ap₂ (λ (z : Box) f. rights up z.r.0 f) inner back))
    ]

pub returns : goal.returns
returns t c = let d = done c.loop-p.invariant c.loop-p-test.false in record { l_value = d.0; r_value = d.1 }
