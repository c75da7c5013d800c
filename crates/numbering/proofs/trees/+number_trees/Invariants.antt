-- What is left to number makes the whole. The measure of the calls is the number of entries.
use Rattle.std.proofs.Common.{◌-◌}
use Rattle.request.specs.Numbering.{lefts, rights}
use Rattle.reading.specs.Inside.Work.{direction_by}
use Rattle.numbering.specs.Inside.Boxed.{forest_in}
use Rattle.numbering.proofs.NumberingLaws.{Numbers}
use Rattle.numbering.proofs.trees.+number_trees.Given as goal

abbrev pub decreases-number_trees : goal.decreases-number_trees
decreases-number_trees l = l.to - l.from

abbrev pub invariant-loop-p : goal.invariant-loop-p
invariant-loop-p l =
    let t = forest_in l.work l.from l.to in
    Numbers l.work l.upright l.from l.to (lefts (direction_by l.upright) l.fn.area.l.0 t) (rights (direction_by l.upright) l.fn.area.r.0 t) l.p l.rest.l.0 l.rest.r.0
    l.rest.quota l.l l.r

abbrev pub decreases-loop-p : goal.decreases-loop-p
decreases-loop-p l = l.to - l.p
