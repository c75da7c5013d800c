-- What the code asks of a count before it is encoded: it is at most the greatest number (RULES.md, 1), so that it does not run into the kind.
use Rattle.std.specs.Prelude.{ℕ, ◌≤◌}
use Rattle.rules.specs.Answers.{Answer, answer, refused}
use Rattle.rules.specs.Limits.{greatest}

abbrev pub Small : Answer ℕ → Type 0
Small (answer n) = n ≤ greatest
Small (refused n) = Unit {0}
