-- What is to come from here is the whole.
use Rattle.std.proofs.Common.{◌≡◌}
use Rattle.script.specs.Items.{items_left}
use Rattle.script_values.specs.Bytes.{given_by, bytes_from, bytes_of_line}
use Rattle.script_values.proofs.putting.bytes.Given as goal

abbrev pub invariant-loop-item : goal.invariant-loop-item
invariant-loop-item l =
    (bytes_from (items_left l.item-iterator) l.from (given_by l.writer) ≡ bytes_of_line l.line l.initial.writer.buffer.now)
    × (l.writer.buffer.ghost_name ≡ l.initial.writer.buffer.ghost_name)
