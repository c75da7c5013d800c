use Rattle.std.proofs.Common.{◌≡◌, ◌∙◌, length, take, arith}
use Rattle.std.proofs.lemmas.List.{length-take-le, get_or-take}
use Rattle.separate.proofs.Certificate.{chain_none, chain_more, chain_all}
use Rattle.separate.proofs.certifying.ranges_in_order.Goals as goal

pub loop-place-init : goal.loop-place-init
loop-place-init c = chain_none _ _ _ _

pub loop-place-preserved : goal.loop-place-preserved
loop-place-preserved c =
    let n : length (take (length c.args.start.now) c.args.order.now) ≡ length c.args.start.now = length-take-le _ _ (omega arith) in
    let e = get_or-take (length c.args.start.now) c.args.order.now c.loop-place.place-index 0 (omega arith) in
    chain_more _ _ _ _ c.loop-place.place-index c.loop-place.invariant (c.from-row.ensures ∙ e) (omega arith) c.from-first.ensures (omega arith) (omega arith) (omega arith)

pub returns : goal.returns
returns c = λ _.
    let n : length (take (length c.args.start.now) c.args.order.now) ≡ length c.args.start.now = length-take-le _ _ (omega arith) in
    chain_all _ _ _ _ c.loop-place.invariant (omega arith)
