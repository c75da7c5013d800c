-- The trees that are left, from here, make the whole, and those that are done are written to the work columns. The measure of the calls
-- is the room for depths.
use Rattle.std.proofs.Common.{◌-◌}
use Rattle.reading.proofs.Walking.{Reading}
use Rattle.reading.proofs.+read_trees.Given as goal

abbrev pub decreases-read_trees : goal.decreases-read_trees
decreases-read_trees l = l.room

abbrev pub invariant-loop-done : goal.invariant-loop-done
invariant-loop-done l = Reading l.bytes l.at l.trees l.room l.used l.initial.work l.work l.place l.next l.sum (l.trees - l._done)
