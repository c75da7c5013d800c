-- `small_requests::request_count`: the counts of the sizes are computed.
use mathlib.Core.Path.{sym, ap}
use native.Mathlib.Omega.{arith}
use Rattle.small.proofs.Computed.{counts}
use Rattle.small_requests.proofs.Rows.{count, other_sizes}
use Rattle.small_requests.proofs.request_count.Goals as goal

pub returns-in-1 : goal.returns-in-1
returns-in-1 c = rw c.in-1.is (sym (ap (count 1) counts))

pub returns-in-2 : goal.returns-in-2
returns-in-2 c = rw c.in-2.is (sym (ap (count 2) counts))

pub returns-in-3 : goal.returns-in-3
returns-in-3 c = rw c.in-3.is (sym (ap (count 3) counts))

pub returns-in-4 : goal.returns-in-4
returns-in-4 c = rw c.in-4.is (sym (ap (count 4) counts))

pub returns-in-5 : goal.returns-in-5
returns-in-5 c = rw c.in-5.is (sym (ap (count 5) counts))

pub returns-in-6 : goal.returns-in-6
returns-in-6 c = rw c.in-6.is (sym (ap (count 6) counts))

pub returns-in_default : goal.returns-in_default
returns-in_default c = sym (other_sizes c.args.size (omega arith) (omega arith) (omega arith) (omega arith) (omega arith) (omega arith))
