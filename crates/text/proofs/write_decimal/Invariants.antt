-- The digits from i on stand, and those of what is left are still to write; the buffer is the writer's still.
use Rattle.std.proofs.Common.{◌≡◌}
use Rattle.text.proofs.Writing.{Writes}
use Rattle.text.proofs.write_decimal.Given as goal

abbrev pub invariant-loop-i : goal.invariant-loop-i
invariant-loop-i l = record {
  writes : Writes l.fn.writer.buffer.now l.fn.writer.at l.n l.writer.buffer.now l.i l.left;
  same_reference : l.writer.buffer.ghost_name ≡ l.fn.writer.buffer.ghost_name;
}
