-- No two of the ids passed are equal.
use Rattle.distinct.proofs.Differing.{Differ}
use Rattle.distinct.proofs.pairs.ids_differ.Given as goal

abbrev pub invariant-loop-i : goal.invariant-loop-i
invariant-loop-i l = Differ l.ids l.i
