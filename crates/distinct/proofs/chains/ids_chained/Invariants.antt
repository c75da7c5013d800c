-- The ids passed are in their chains, and all differ.
use Rattle.distinct.proofs.Chaining.{Chains}
use Rattle.distinct.proofs.chains.ids_chained.Given as goal

abbrev pub invariant-loop-i : goal.invariant-loop-i
invariant-loop-i l = Chains l.fn.ids l.head l.next l.i
