-- What is to come from here is what was asked for.
use Rattle.std.proofs.Common.{◌≡◌}
use Rattle.script.specs.Words.{tokens_left}
use Rattle.script.specs.Items.{given_from, given_of}
use Rattle.script.proofs.given.Given as goal

abbrev pub invariant-loop-token : goal.invariant-loop-token
invariant-loop-token l = given_from (tokens_left l.token-iterator) l.left ≡ given_of l.line l.before
