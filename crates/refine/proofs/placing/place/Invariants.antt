-- What is left to write makes the whole column.
use Rattle.std.specs.Iterator.Adapters.{zip_first, zip_second}
use Rattle.std.specs.Slice.Iter.{iter_rest}
use Rattle.refine.proofs.PlacingLaws.{Places}
use Rattle.refine.proofs.placing.place.Given as goal

abbrev pub invariant-loop-x : goal.invariant-loop-x
invariant-loop-x l =
    Places l.accepted.exploded l.accepted.own l.accepted.next l.base l.ids l.values l.initial.column l.column l.row (iter_rest (zip_first l.x-iterator)) (iter_rest (zip_second l.x-iterator))
