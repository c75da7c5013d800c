-- `store::write_row` meets its contract: four numbers, written one after another, are the row's bytes.
use Rattle.writer.proofs.Writing.{wrote_all, wrote_then}
use Rattle.stored.specs.Stored.{row_bytes}
use Rattle.store.proofs.write_row.Goals as goal

pub returns : goal.returns
unfolding row_bytes
returns c =
    wrote_then c.write_number.ensures.wrote
    (wrote_then c.write_number-2.ensures.wrote (wrote_then c.write_number-3.ensures.wrote (wrote_all c.write_number-4.ensures.wrote)))
    c.requires
