-- `judging::collecting::collect` meets its contract. The loop's invariant: what is left to put makes the whole.
use Rattle.judging.proofs.CollectingLaws.{Filling}
use Rattle.judging.proofs.collecting.collect.Given as goal

abbrev pub invariant-loop-x : goal.invariant-loop-x
invariant-loop-x l = Filling l.ids l.exploded l.n l.initial.all l.all l.m l.x-index
