use Rattle.std.proofs.Common.{◌≡◌, arith, rules}
use Rattle.std.specs.Iterator.Adapters.{zip_first, zip_second}
use Rattle.std.specs.Slice.Iter.{iter_rest}
use Rattle.std.proofs.lemmas.Slice.Zip.{either_empty_from_Zip}
use Rattle.refine.proofs.PlacingLaws.{begins, done, own_fits, row_fits, at_own, at_row}
use Rattle.refine.proofs.placing.place.Goals as goal

pub loop-x-init : goal.loop-x-init
loop-x-init c =
    let a : iter_rest (zip_first c.into_iter-x-iterator.result) ≡ c.args.ids.now = search rules in
    let b : iter_rest (zip_second c.into_iter-x-iterator.result) ≡ c.args.values.now = search rules in
    begins a b c.requires.same_length c.requires.has_rows

pub bounds-column-accepted : goal.bounds-column-accepted
bounds-column-accepted c = let s = c.in-Some.ensures.steps in own_fits c.loop-x.invariant s.0 s.1

pub offset_bounds-column-accepted : goal.offset_bounds-column-accepted
offset_bounds-column-accepted c = let s = c.in-Some.ensures.steps in omega (arith, own_fits c.loop-x.invariant s.0 s.1)

pub bounds-column-row : goal.bounds-column-row
bounds-column-row c = let s = c.in-Some.ensures.steps in row_fits c.loop-x.invariant s.0 s.1 c.if-x-accepted.false

pub offset_bounds-column-row : goal.offset_bounds-column-row
offset_bounds-column-row c = let s = c.in-Some.ensures.steps in omega (arith, row_fits c.loop-x.invariant s.0 s.1 c.if-x-accepted.false, c.loop-x.invariant.same, c.well_formed)

pub overflow_add-row : goal.overflow_add-row
overflow_add-row c = let s = c.in-Some.ensures.steps in omega (arith, row_fits c.loop-x.invariant s.0 s.1 c.if-x-accepted.false, c.loop-x.invariant.same, c.well_formed)

pub loop-x-preserved-then-x-accepted : goal.loop-x-preserved-then-x-accepted
loop-x-preserved-then-x-accepted c = let s = c.in-Some.ensures.steps in at_own c.loop-x.invariant s.0 s.1 c.if-x-accepted.true

pub loop-x-preserved : goal.loop-x-preserved
loop-x-preserved c = let s = c.in-Some.ensures.steps in at_row c.loop-x.invariant s.0 s.1 c.if-x-accepted.false

pub returns : goal.returns
returns c = done c.loop-x.invariant (either_empty_from_Zip c.loop-x.x-iterator c.next.new.self _ c.in-None.is c.next.ensures.steps)
