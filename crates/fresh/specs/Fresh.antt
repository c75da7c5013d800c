-- Fresh (RULES.md, 4) takes an id and a quota and writes row 0: l = 1, r = 1. Count 1. 10 for lengths, then 11 for id or quota 0.
use Rattle.std.specs.Prelude.{ℕ, cond, ◌||◌, List, [], ◌∷◌, eqb}
use Rattle.rules.specs.Answers.{Answer, answer, refused}
use Rattle.table.specs.Columns.{Columns}
use Rattle.table.specs.declared.Row.{Row}
use Rattle.table.specs.Check.{lengths_bad}

unfoldable pub fresh_rows : Columns → ℕ → ℕ → Answer (List Row)
fresh_rows c id quota =
    cond (lengths_bad c) (refused 10) (cond (eqb id 0 || eqb quota 0) (refused 11) (answer (record { id = id; l = 1; r = 1; q = quota } ∷ [])))
