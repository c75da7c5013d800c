-- `replay::carry_out` meets its contract. The loop's invariant: the lines done stand in the buffer, and what is to come after them is the whole.
use mathlib.Core.Path.{◌≡◌}
use Prim.Native.Nat.{◌-◌}
use lib.ListN.{length}
use Rattle.table.specs.Columns.{columns}
use Rattle.replay.specs.Inside.Carrying.{carried}
use Rattle.replay.proofs.Carrying.{Going}
use Rattle.replay.proofs.carry_out.Given as goal

abbrev pub invariant-loop-at : goal.invariant-loop-at
invariant-loop-at l = (length l.id ≡ length l.initial.id) × (length l.l ≡ length l.initial.l) × (length l.r ≡ length l.initial.r) × (length l.q ≡ length l.initial.q)
    × (l.writer.buffer.ghost_name ≡ l.initial.writer.buffer.ghost_name)
    × Going (carried (columns l.initial.id l.initial.l l.initial.r l.initial.q) l.log l.from) l.log l.initial.writer.buffer.now (record { columns = columns l.id l.l l.r l.q; count = l.count })
    l.writer.buffer.now l.at l.writer.at

abbrev pub decreases-loop-at : goal.decreases-loop-at
decreases-loop-at l = length l.log - l.at
