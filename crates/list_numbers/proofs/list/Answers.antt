use Rattle.std.proofs.Common.{sym, arith}
use Rattle.number.proofs.Laws.{number_ends}
use Rattle.list_numbers.proofs.list.Goals as goal

pub loop-at-smaller : goal.loop-at-smaller
loop-at-smaller g c = let e = number_ends _ _ (sym c.in-Ok.ensures) in omega (arith, e)
