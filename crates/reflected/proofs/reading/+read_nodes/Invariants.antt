-- The trees that are left, from here, make the whole, and those that are done stand in the places. The measure of the calls is the room for
-- depths.
use Rattle.std.proofs.Common.{◌-◌}
use Rattle.reflected.proofs.Walking.{Reading}
use Rattle.reflected.proofs.reading.+read_nodes.Given as goal

abbrev pub decreases-read_nodes : goal.decreases-read_nodes
decreases-read_nodes l = l.room

abbrev pub invariant-loop-done : goal.invariant-loop-done
invariant-loop-done l = Reading l.bytes l.at l.trees l.room l.used l.count l.initial.nodes l.nodes l.place l.next l.groups (l.trees - l._done)
