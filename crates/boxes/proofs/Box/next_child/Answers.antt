use Rattle.coordinates.proofs.Ranges.{not_past}
use Rattle.boxes.proofs.Cuts.{too_small, too_far, next_parts}
use Rattle.boxes.proofs.Box.next_child.Goals as goal

pub returns-then-self-quota : goal.returns-then-self-quota
returns-then-self-quota c = too_small _ _ c.if-self-quota.true

pub returns-then-passes : goal.returns-then-passes
returns-then-passes c = too_far c.args.self c.args.quota c.if-self-quota.false (rw (← c.passes.ensures, ← c.passes-2.ensures) c.if-passes.true)

pub returns : goal.returns
returns c =
    let f = not_past c.passes.ensures c.passes-2.ensures c.if-passes.false in
    rw (c.plus.ensures, c.plus-2.ensures) (next_parts c.args.self c.args.quota c.if-self-quota.false f.0 f.1)
