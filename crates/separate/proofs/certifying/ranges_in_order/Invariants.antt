-- `separate::certifying::ranges_in_order` meets its contract. The loop's invariant: the ranges passed follow each other, and end before `past`.
use Rattle.std.proofs.Common.{length}
use Rattle.separate.proofs.Certificate.{Chain}
use Rattle.separate.proofs.certifying.ranges_in_order.Given as goal

abbrev pub invariant-loop-place : goal.invariant-loop-place
invariant-loop-place l = Chain l.start l.size l.order (length l.start) l.place-index l.past
