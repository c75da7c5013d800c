use Rattle.std.proofs.Common.{length, ap, ◌∙◌, arith}
use Rattle.stored.specs.Stored.{row_bytes}
use Rattle.table.proofs.RowBytes.{rest_room, rest_next, rest_none, next_length, no_bytes}
use Rattle.writer.proofs.Writing.{wrote_room}
use Rattle.store.proofs.write_rows.Goals as goal

pub write_row-requires : goal.write_row-requires
write_row-requires c = rest_room row_bytes c.loop-row.invariant.rest c.in-Some.ensures.steps

pub loop-row-preserved : goal.loop-row-preserved
loop-row-preserved c =
    let i = c.loop-row.invariant in
    let w = c.write_row.ensures in
    record {
      rest = rest_next row_bytes i.rest c.in-Some.ensures.steps w.place w.buffer;
      place = omega (arith, next_length row_bytes c.in-Some.ensures.steps);
      same_reference = w.same_reference ∙ i.same_reference;
    }

pub returns : goal.returns
returns c =
    let i = c.loop-row.invariant in
    wrote_room c.requires (rest_none row_bytes i.rest c.in-None.ensures.steps.0) (omega (arith, ap length (no_bytes row_bytes c.in-None.ensures.steps.0))) i.same_reference
