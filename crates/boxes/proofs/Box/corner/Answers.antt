use Rattle.boxes.proofs.Cuts.{corner_none, corner_whole, corner_low, corner_high}
use Rattle.boxes.proofs.Box.corner.Goals as goal

pub returns-then-self-own : goal.returns-then-self-own
returns-then-self-own c = corner_none c.args.self c.args.own _ (rw (c.passes.ensures, c.passes-2.ensures) at c.if-self-own.true)

pub returns-then-upright : goal.returns-then-upright
returns-then-upright c =
    let f = corner_whole c.args.self c.args.own c.passes.ensures c.passes-2.ensures c.if-self-own.false in
    rw (c.plus.ensures, c.plus-then-upright.ensures) (rw c.if-upright.true (corner_low c.args.self c.args.own f.0 f.1.0 f.1.1))

pub returns : goal.returns
returns c =
    let f = corner_whole c.args.self c.args.own c.passes.ensures c.passes-2.ensures c.if-self-own.false in
    rw (c.plus-2.ensures, c.plus-3.ensures, c.if-upright.false) (corner_high c.args.self c.args.own f.0 f.1.0 f.1.1)
