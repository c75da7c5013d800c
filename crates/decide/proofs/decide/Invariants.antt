-- `decide::decide` meets its contract. The loop's measure is the number of readings that may still come.
use Rattle.dating.proofs.FewReadings.{to_come}
use Rattle.decide.proofs.Deciding.{applying, Between}
use Rattle.decide.proofs.decide.Given as goal

abbrev pub invariant-loop-asked : goal.invariant-loop-asked
invariant-loop-asked l = Between l.feature l.l l.r l.day l.grants l.t

abbrev pub decreases-loop-asked : goal.decreases-loop-asked
decreases-loop-asked l = to_come (applying l.feature l.l l.r l.day l.grants) l.t
