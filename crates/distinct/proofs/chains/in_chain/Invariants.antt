-- None of the ids passed is x.
use Rattle.distinct.proofs.Chaining.{Walk}
use Rattle.distinct.proofs.chains.in_chain.Given as goal

abbrev pub invariant-loop-at : goal.invariant-loop-at
invariant-loop-at l = Walk l.fn.ids l.fn.count l.fn.link l.fn.x l.at

abbrev pub decreases-loop-at : goal.decreases-loop-at
decreases-loop-at l = l.at
