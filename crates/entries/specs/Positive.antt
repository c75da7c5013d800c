-- A value that may not be 0 (RULES.md, 5.2).
use Rattle.std.specs.Prelude.{ℕ, cond, eqb}
use Rattle.rules.specs.Answers.{Answer, answer, refused, then}

-- 4: exploded id, tree count, entry id or quota is 0
abbrev pub positive_value : Answer ℕ → Answer ℕ
positive_value drawn = then drawn λ n. cond (eqb n 0) (refused 4) (answer n)
