-- What `may` prints (RULES.md, 14.2): `on` with a day or `open`, `ended` or `ahead` with a day, `never`, or `no` with the refusal; one space
-- between fields, a line feed at the end.
use Rattle.std.specs.Prelude.{ℕ, List, ◌++◌}
use Rattle.rules.specs.Answers.{Answer, answer, refused}
use Rattle.renewals.specs.Dating.{Decision, on_open, on_until, ended, ahead, never}
use Rattle.text.specs.Letters.{letters}
use Rattle.lines.specs.Lines.{field_text}

unfoldable pub decision_text : Answer Decision → List ℕ
decision_text (answer on_open) = letters "on open\n"
decision_text (answer (on_until day)) = letters "on " ++ field_text day 10
decision_text (answer (ended day)) = letters "ended " ++ field_text day 10
decision_text (answer (ahead day)) = letters "ahead " ++ field_text day 10
decision_text (answer never) = letters "never\n"
decision_text (refused n) = letters "no " ++ field_text n 10
