-- What is left to read makes the whole number, where a group ends it too.
use Rattle.std.proofs.Common.{arith}
use Rattle.number.proofs.Reading.{cut, zero_last, ends}
use Rattle.number.proofs.later_groups.Goals as goal

pub returns-then-bytes-i : goal.returns-then-bytes-i
returns-then-bytes-i c = cut c.loop-i.invariant c.loop-i-test.true c.if-bytes-i.true

pub returns-then-b-eq0 : goal.returns-then-b-eq0
returns-then-b-eq0 c = zero_last c.loop-i.invariant c.loop-i-test.true (omega arith) c.if-b-eq0.true

pub returns-then-b-lt128 : goal.returns-then-b-lt128
returns-then-b-lt128 c = ends c.loop-i.invariant c.loop-i-test.true (omega arith) c.if-b-lt128.true c.if-b-eq0.false
