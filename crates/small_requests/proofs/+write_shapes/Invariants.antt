-- `small_requests::write_shapes` meets its contract. The loop's invariant: the requests for the child counts below k are written. The calls' measure
-- is how many entries are left.
use Rattle.std.proofs.Common.{◌≡◌}
use Rattle.small_requests.proofs.Choosing.{Choosing}
use Rattle.small_requests.proofs.+write_shapes.Given as goal

abbrev pub invariant-loop-k : goal.invariant-loop-k
invariant-loop-k l = record {
  choosing : Choosing l.initial.writer.buffer.now l.initial.writer.at l.done l.id l.trees l.entries l.initial.row l.writer.buffer.now l.row l.writer.at l.k;
  same_reference : l.writer.buffer.ghost_name ≡ l.initial.writer.buffer.ghost_name;
}

abbrev pub decreases-write_shapes : goal.decreases-write_shapes
decreases-write_shapes l = l.rest.entries
