-- The nodes that are left have places, and their bytes make the whole.
use Rattle.std.proofs.Common.{◌≡◌, ◌+◌, ◌-◌, length}
use Rattle.request.specs.Bytes.{trees_bytes}
use Rattle.reflected.specs.Inside.Writing.{roots_at, Walks}
use Rattle.reflected.proofs.writing.roots_length.Given as goal

abbrev pub invariant-loop-done : goal.invariant-loop-done
invariant-loop-done l = record {
  walks : Walks l.nodes l.at (l.count - l._done);
  total : l.bytes + length (trees_bytes (roots_at l.nodes l.at (l.count - l._done))) ≡ length (trees_bytes (roots_at l.nodes l.first l.count));
}
