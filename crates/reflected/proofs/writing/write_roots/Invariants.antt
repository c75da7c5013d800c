-- The nodes that are left have places, and their bytes make the whole.
use Rattle.std.proofs.Common.{◌-◌}
use Rattle.request.specs.Bytes.{trees_bytes}
use Rattle.reflected.specs.Inside.Writing.{roots_at, Walks}
use Rattle.reflected.proofs.Parts.{Left}
use Rattle.reflected.proofs.writing.write_roots.Given as goal

abbrev pub invariant-loop-done : goal.invariant-loop-done
invariant-loop-done l = record {
  walks : Walks l.nodes l.place (l.count - l._done);
  wrote : Left l.initial.writer l.writer (trees_bytes (roots_at l.nodes l.first l.count)) (trees_bytes (roots_at l.nodes l.place (l.count - l._done)));
}
