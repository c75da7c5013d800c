use Rattle.std.proofs.Common.{arith, sym, eqb-true}
use Rattle.distinct.proofs.Differing.{all_differ_lem, above_same}
use Rattle.distinct.proofs.pairs.ids_differ.Goals as goal

pub returns-then-contains : goal.returns-then-contains
returns-then-contains c =
    let a = c.if-contains.ensures.cases in
    sym (above_same _ c.loop-i.i a.0 c.loop-i-test.true a.1 (eqb-true _ _ (a.2 0)))

pub returns : goal.returns
returns c = sym (all_differ_lem _ (λ k h. c.loop-i.invariant k (omega arith)))
