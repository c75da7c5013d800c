-- A first byte that is the only one, or the later groups above it.
use Rattle.std.proofs.Common.{◌≡◌, ◌+◌, ◌-◌, ◌%◌, ◌∙◌, true, false, ap, sym, arith, get_or}
use Rattle.number.specs.Number.{number_at, followed, added_to, bit_groups_at}
use Rattle.number.proofs.Groups.{short, last, more, last_only}
use Rattle.number.proofs.number_at.Goals as goal

pub returns-then-bytes-at : goal.returns-then-bytes-at
unfolding number_at
returns-then-bytes-at c = sym (short _ _ 4 true c.if-bytes-at.true)

pub returns-then-first-lt128 : goal.returns-then-first-lt128
unfolding number_at
returns-then-first-lt128 c = sym (last c.args.bytes.now c.args.at 3 true (omega arith) c.if-first-lt128.true ∙ last_only _ _)

pub returns : goal.returns
unfolding number_at followed
returns c =
    let b = get_or c.args.bytes.now c.args.at 0 in
    let low : b - 128 ≡ b % 128 = omega (arith, c.type_inv.bytes c.args.at) in
    c.later_groups.ensures
    ∙ ap (λ v. added_to v 128 (bit_groups_at 3 false c.args.bytes.now (c.args.at + 1))) low
    ∙ sym (more c.args.bytes.now c.args.at 3 true (omega arith) c.if-first-lt128.false)
