-- The last byte that is not EE, if there is one.
use Rattle.std.proofs.Common.{length, sym, rules}
use Rattle.show.proofs.Laws.{used_last}
use Rattle.show.proofs.used.Goals as goal

pub returns-in-Some-clause-value : goal.returns-in-Some-clause-value
returns-in-Some-clause-value c = sym (used_last (length c.args.s.now) c.args.s.now c.in-Some.i (search rules) (search rules) (search rules))
