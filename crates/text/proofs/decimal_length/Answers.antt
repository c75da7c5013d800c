-- One digit, or one more than the logarithm.
use Rattle.std.proofs.Common.{length, ap, sym}
use Rattle.text.proofs.Laws.{one_below_ten}
use Rattle.text.proofs.decimal_length.Goals as goal

pub returns-then-n-lt10 : goal.returns-then-n-lt10
returns-then-n-lt10 c = sym (ap length (one_below_ten c.args.n c.if-n-lt10.true))
