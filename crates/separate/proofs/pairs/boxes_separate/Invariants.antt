-- `separate::pairs::boxes_separate` meets its contract. The loop's invariant: every two of the boxes passed are disjoint.
use Rattle.std.proofs.Common.{◌≡◌, ◌<◌, true}
use Rattle.boxes.specs.Boxes.{disjoint}
use Rattle.separate.specs.Inside.Pairs.{box_at}
use Rattle.separate.proofs.pairs.boxes_separate.Given as goal

abbrev pub invariant-loop-i : goal.invariant-loop-i
invariant-loop-i l = (k : _) → k < l.i → (j : _) → j < k → disjoint (box_at l.l l.r l.q j) (box_at l.l l.r l.q k) ≡ true
