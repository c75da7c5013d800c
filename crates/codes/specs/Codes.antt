-- The one number that a call answers outside: a kind and a value (RULES.md, 17). A kind's number stands here once for all contracts;
-- the code's enum has the same (Inside/Kinds).
use Rattle.std.specs.Prelude.{ℕ, ◌+◌, ◌*◌}
use Rattle.rules.specs.Answers.{Answer, answer, refused}
use Rattle.rules.specs.Limits.{greatest}
use Rattle.order.specs.declared.Ordered.{Ordered}
use Rattle.order.specs.declared.Ordered.TheVariants.{Same, First, Second, Incomparable}
use Rattle.renewals.specs.Dating.{Decision, on_open, on_until, ended, ahead, never}

-- the kind counts for 4294967296, one more than the greatest number
abbrev pub encoded : ℕ → ℕ → ℕ
encoded kind value = kind * (greatest + 1) + value

-- a refusal: its number
abbrev pub refusal_code : ℕ → ℕ
refusal_code n = encoded 0 n

-- a new count, or a byte count
abbrev pub count_code : Answer ℕ → ℕ
count_code (answer n) = encoded 1 n
count_code (refused n) = refusal_code n

abbrev pub order_code : Answer Ordered → ℕ
order_code (answer Same) = encoded 2 0
order_code (answer First) = encoded 3 0
order_code (answer Second) = encoded 4 0
order_code (answer Incomparable) = encoded 5 0
order_code (refused n) = refusal_code n

abbrev pub decision_code : Answer Decision → ℕ
decision_code (answer on_open) = encoded 6 0
decision_code (answer (on_until day)) = encoded 7 day
decision_code (answer (ended day)) = encoded 8 day
decision_code (answer (ahead day)) = encoded 9 day
decision_code (answer never) = encoded 10 0
decision_code (refused n) = refusal_code n
