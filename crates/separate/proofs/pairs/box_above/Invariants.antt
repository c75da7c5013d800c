-- `separate::pairs::box_above` meets its contract. The loop's invariant: each box passed is disjoint from row i's.
use Rattle.std.proofs.Common.{◌≡◌, ◌<◌, true}
use Rattle.boxes.specs.Boxes.{disjoint}
use Rattle.separate.specs.Inside.Pairs.{box_at}
use Rattle.separate.proofs.pairs.box_above.Given as goal

abbrev pub invariant-loop-j : goal.invariant-loop-j
invariant-loop-j l = (l.own ≡ box_at l.l l.r l.q l.i) × ((k : _) → k < l.j → disjoint (box_at l.l l.r l.q k) (box_at l.l l.r l.q l.i) ≡ true)
