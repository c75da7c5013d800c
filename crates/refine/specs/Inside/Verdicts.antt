-- What is found of a request to the table c of n rows.
use Rattle.std.specs.Prelude.{◌≡◌, List, ℕ, ◌+◌, ◌-◌, Result, Ok, Err}
use Rattle.rules.specs.Answers.{answer, refused}
use Rattle.rules.specs.Refusals.{refusal_number}
use Rattle.rules.specs.declared.Refusal.{Refusal}
use Rattle.table.specs.Columns.{Columns, counted, afterwards}
use Rattle.refine.specs.Refine.{refined}
use Rattle.refine.specs.Inside.Placing.{placed_all, CanPlace}
use Rattle.refine.specs.declared.Accepted.{Accepted}

-- the refusal; or the entries in the work columns can be written, and that makes the new table
abbrev pub Settles : (c : Columns) (n : ℕ) (bytes ids quotas l r : List ℕ) → Result Accepted Refusal → Type 0
Settles c n bytes ids quotas l r (Err why) = refined c n bytes ≡ refused (refusal_number why)
Settles c n bytes ids quotas l r (Ok a) =
    CanPlace a ids quotas l r c
    × (answer (a.next + a.entries - 1) ≡ counted (refined c n bytes))
    × (placed_all a ids quotas l r c ≡ afterwards (refined c n bytes) c)
