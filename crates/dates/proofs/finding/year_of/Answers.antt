use Rattle.std.proofs.Common.{◌≡◌, arith}
use Rattle.dates.proofs.Searching.{begins, in_last}
use Rattle.dates.proofs.finding.year_of.Goals as goal

pub loop-k-init : goal.loop-k-init
loop-k-init c = begins _ c.requires.0 c.requires.1

pub returns : goal.returns
returns c =
    let i = c.loop-k.invariant in
    let e : c.loop-k.k ≡ 99 = omega arith in
    in_last c.requires.1 (omega arith) (omega arith) (rw e at i.1)
