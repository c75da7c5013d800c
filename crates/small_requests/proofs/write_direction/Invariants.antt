-- `small_requests::write_direction` meets its contract. The loop's invariant: the requests of so many tree counts are written.
use Rattle.std.proofs.Common.{◌-◌, ◌≡◌}
use Rattle.small_requests.proofs.Directions.{Directing}
use Rattle.small_requests.proofs.write_direction.Given as goal

abbrev pub invariant-loop-trees : goal.invariant-loop-trees
invariant-loop-trees l = record {
  directing : Directing l.initial.writer.buffer.now l.initial.writer.at l.direction l.size l.writer.buffer.now l.row l.writer.at (l.trees - 1);
  same_reference : l.writer.buffer.ghost_name ≡ l.initial.writer.buffer.ghost_name;
}
