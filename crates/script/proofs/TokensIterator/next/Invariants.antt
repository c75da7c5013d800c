-- The token so far and the bytes from here on make the whole.
use Rattle.std.proofs.Common.{◌≡◌, drop, Some}
use Rattle.script.specs.Words.{tokens_from}
use Rattle.script.proofs.TokensIterator.next.Given as goal

abbrev pub invariant-loop-i : goal.invariant-loop-i
invariant-loop-i l = tokens_from (Some l.token) (drop l.i l.line) ≡ tokens_from (Some l.initial.token) l.line
