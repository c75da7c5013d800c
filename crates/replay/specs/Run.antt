-- Requests carried out one after another on a table (RULES.md, 14.1).
use Rattle.std.specs.Prelude.{ℕ, List, [], ◌∷◌}
use Rattle.rules.specs.Answers.{Answer}
use Rattle.table.specs.Columns.{Table}
use Rattle.refine.specs.Refine.{answer_to, table_after}

-- a list of requests: the answer to each, and the table after them all
unfoldable pub answers_to : Table → List (List ℕ) → List (Answer ℕ)
answers_to t [] = []
answers_to t (request ∷ others) = answer_to t request ∷ answers_to (table_after t request) others

unfoldable pub table_end : Table → List (List ℕ) → Table
table_end t [] = t
table_end t (request ∷ others) = table_end (table_after t request) others
