use Rattle.std.proofs.Common.{arith, sym}
use Rattle.distinct.proofs.Differing.{all_differ_lem, two_same}
use Rattle.distinct.proofs.Chaining.{chains_none}
use Rattle.distinct.proofs.chains.ids_chained.Goals as goal

pub loop-i-init : goal.loop-i-init
loop-i-init c = chains_none _

pub returns-then-in_chain : goal.returns-then-in_chain
returns-then-in_chain c =
    let a = c.in_chain.ensures.same c.if-in_chain.true in
    sym (two_same _ a.0 c.loop-i.i a.1 c.loop-i-test.true a.2)

pub returns : goal.returns
returns c = sym (all_differ_lem _ (λ j h. c.loop-i.invariant.differ j (omega arith)))
