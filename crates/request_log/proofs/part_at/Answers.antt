-- The length ends within the log.
use Rattle.std.proofs.Common.{sym, arith}
use Rattle.number.proofs.Laws.{number_ends}
use Rattle.request_log.proofs.part_at.Goals as goal

pub overflow_sub-log : goal.overflow_sub-log
overflow_sub-log c = omega (arith, number_ends _ _ (sym c.in_ok-length.ensures))
