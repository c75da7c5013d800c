-- What is promised of the list that is written for a reflected tree (RULES.md, 20.3): columns of 256 rows accept all of it, and the table's order is
-- then Table 2.
use Rattle.std.specs.Prelude.{◌≡◌, true, false, ℕ, List, [], ◌∷◌, eqb, length}
use Rattle.rules.specs.Answers.{Answer, answer, then}
use Rattle.rules.specs.Limits.{most_rows}
use Rattle.request.specs.Entries.{has}
use Rattle.request_log.specs.Log.{pair_of, requests_at}
use Rattle.request_log.specs.declared.Pair.{Pair}
use Rattle.table.specs.Columns.{Columns, Table, counted}
use Rattle.table.specs.Check.{lengths_bad}
use Rattle.fresh.specs.Fresh.{fresh_rows}
use Rattle.refine.specs.Refine.{answer_to, table_after}
use Rattle.ledger.specs.Calls.{engine_start}
use Rattle.order.specs.declared.Ordered.{Ordered}
use Rattle.order.specs.Order.{order, order_by}
use Rattle.reflected_tree.specs.Reflected.{Reflected, groups}
use Rattle.reflected_tree.specs.Written.{list_bytes}
use Rattle.reflected_tree.specs.Table2.{table2}
use Rattle.reflected_tree.specs.Reading.{reflected_of}

-- requests carried out one after another, each on the table that the one before left; the first refusal ends them
unfoldable pub carried_out : Table → List (List ℕ) → Answer Table
carried_out t [] = answer t
carried_out t (request ∷ others) = then (answer_to t request) λ _. carried_out (table_after t request) others

-- x is a group of the tree
abbrev pub GroupOf : Reflected → ℕ → Type 0
GroupOf t x = has x (groups t) ≡ true

-- what order answers of two groups, by Table 2
abbrev pub table2_order : Reflected → ℕ → ℕ → Answer Ordered
table2_order t x y = answer (order_by (eqb x y) (table2 t x y) (table2 t y x))

-- of some columns and the list that is written for the tree t, as `grow` reads it
pub record Moves (c : Columns) (t : Reflected) : Type 0 where
  -- the fresh pair, and the requests after it: nothing else stands in the list
  pub pair : Pair
  pub requests : List (List ℕ)
  pub pair_is : pair_of (list_bytes t) ≡ answer pair
  pub requests_are : requests_at (list_bytes t) pair.next ≡ record { bytes = requests; ended = answer tt }
  -- fresh accepts the pair; from the columns that it left refine accepts each request, on the table that the one before left
  pub fresh_accepts : counted (fresh_rows c pair.id pair.quota) ≡ answer 1
  pub last : Table
  pub all_accepted : carried_out (engine_start c pair.id pair.quota) requests ≡ answer last
  -- for every two groups of the tree the order that the table then answers is Table 2
  pub order_is : (x y : ℕ) → GroupOf t x → GroupOf t y → order last.columns last.count x y ≡ table2_order t x y

-- for every input that is read, in columns of 256 rows
abbrev pub MovesOver : List ℕ → Columns → Type 0
MovesOver bytes c = (t : Reflected) → reflected_of bytes ≡ answer t → lengths_bad c ≡ false → length c.id ≡ most_rows → Moves c t
