-- What is left to read makes the whole number.
use Rattle.number.proofs.Reading.{Later}
use Rattle.number.proofs.later_groups.Given as goal

abbrev pub invariant-loop-i : goal.invariant-loop-i
invariant-loop-i l = Later l.bytes l.at l.low l.i l.unit l.sum
