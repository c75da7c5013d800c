use Rattle.std.proofs.Common.{sym, arith, below_more}
use Rattle.separate.proofs.Disjoint.{in_all, in_below, all_disjoint_lem, two_meet, certified}
use Rattle.separate.proofs.pairs.boxes_separate.Goals as goal

pub returns-then-ranges_certified-2 : goal.returns-then-ranges_certified-2
returns-then-ranges_certified-2 c =
    sym (certified _ _ _ (c.ranges_certified.ensures c.if-ranges_certified.true) (c.ranges_certified-then-ranges_certified.ensures c.if-ranges_certified-2.true))

pub returns-then-box_above : goal.returns-then-box_above
returns-then-box_above c =
    let a = c.box_above.ensures.meets c.if-box_above.true in
    sym (two_meet _ _ _ a.0 c.loop-i.i a.1 (in_all c.args.l.now c.args.r.now c.args.q.now c.loop-i.i (omega arith)) a.2)

pub loop-i-preserved : goal.loop-i-preserved
loop-i-preserved c = below_more _ _ c.loop-i.invariant (c.box_above.ensures.clear c.if-box_above.false)

pub returns : goal.returns
returns c = sym (all_disjoint_lem _ _ _ (λ k h. c.loop-i.invariant k (in_below c.args.l.now c.args.r.now c.args.q.now c.loop-i.i (omega arith) h)))
