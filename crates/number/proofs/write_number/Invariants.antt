-- What is left to write makes the whole buffer, which is the writer's still.
use Rattle.std.proofs.Common.{◌≡◌}
use Rattle.number.proofs.Writing.{Writes}
use Rattle.number.proofs.write_number.Given as goal

abbrev pub invariant-loop-i : goal.invariant-loop-i
invariant-loop-i l = record {
  writes : Writes l.fn.writer.buffer.now l.fn.writer.at l.value l.writer.buffer.now l.i l.left;
  same_reference : l.writer.buffer.ghost_name ≡ l.fn.writer.buffer.ghost_name;
}
