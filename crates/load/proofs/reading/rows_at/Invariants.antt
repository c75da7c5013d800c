-- `load::reading::rows_at` meets its contract. The loop's invariant: the rows read so far, with those still to be read, are the whole.
use Rattle.load.specs.Work.{work_columns}
use Rattle.load.proofs.Filling.{Fills}
use Rattle.load.proofs.reading.rows_at.Given as goal

abbrev pub invariant-loop-i : goal.invariant-loop-i
invariant-loop-i l = Fills l.bytes l.at l.count (work_columns l.work) l.next l.i
