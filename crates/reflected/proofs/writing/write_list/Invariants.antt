-- What the nodes that are left give makes the whole.
use Rattle.std.proofs.Common.{◌-◌}
use Rattle.reflected.specs.Inside.Writing.{sized_all}
use Rattle.reflected.proofs.Parts.{Left}
use Rattle.reflected.proofs.Written.{requests_at, list_of}
use Rattle.reflected.proofs.writing.write_list.Given as goal

abbrev pub invariant-loop-i : goal.invariant-loop-i
invariant-loop-i l = Left l.fn.writer l.writer (list_of l.nodes l.count) (sized_all (requests_at l.nodes l.i (l.count - l.i)))
