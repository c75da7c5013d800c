-- A list of refine and order calls (RULES.md, 16), given to the ledger and to the engine.
use Rattle.std.specs.Prelude.{ℕ, Bool, false, ◌||◌, List, [], ◌∷◌, eqb, length}
use Rattle.rules.specs.Answers.{Answer, answer, refused, then, or_else}
use Rattle.request.specs.Request.{Request}
use Rattle.table.specs.Columns.{Columns, Table, afterwards}
use Rattle.fresh.specs.Fresh.{fresh_rows}
use Rattle.order.specs.declared.Ordered.{Ordered}
use Rattle.order.specs.Order as table
use Rattle.refine.specs.Refine.{answer_to, table_after}
use Rattle.ledger.specs.Ledger.{Ledger, accepted_by, ledger_refined, ledger_order}

-- whatever bytes and ids they bring
pub data Call : Type 0 where
  refine : (bytes : List ℕ) → Call
  order : (a b : ℕ) → Call

-- each call's answer: the new count, the order or the refusal number
pub data Reply : Type 0 where
  refine_says : Answer ℕ → Reply
  order_says : Answer Ordered → Reply

-- The ledger's side. The answer is the number of ids; a refused call changes nothing; order changes nothing
unfoldable pub ledger_reply : Ledger → Call → Reply
ledger_reply g (refine bytes) = refine_says (then (ledger_refined g bytes) λ h. answer (length h.groups))
ledger_reply g (order a b) = order_says (ledger_order g a b)

unfoldable pub ledger_after : Ledger → Call → Ledger
ledger_after g (refine bytes) = or_else (ledger_refined g bytes) g
ledger_after g (order a b) = g

unfoldable pub ledger_replies : Ledger → List Call → List Reply
ledger_replies g [] = []
ledger_replies g (k ∷ ks) = ledger_reply g k ∷ ledger_replies (ledger_after g k) ks

unfoldable pub ledger_end : Ledger → List Call → Ledger
ledger_end g [] = g
ledger_end g (k ∷ ks) = ledger_end (ledger_after g k) ks

-- an accepted request explodes the group whose id it names for that
abbrev pub names : ℕ → Answer Request → Bool
names x (answer q) = eqb x q.exploded
names x (refused n) = false

unfoldable pub explodes : ℕ → Ledger → Call → Bool
explodes x g (refine bytes) = names x (accepted_by g bytes)
explodes x g (order a b) = false

unfoldable pub exploded_in : ℕ → Ledger → List Call → Bool
exploded_in x g [] = false
exploded_in x g (k ∷ ks) = explodes x g k || exploded_in x (ledger_after g k) ks

-- The engine's side, by the definitions that the calls' contracts cite: `counted` and `afterwards` of `refined` (`answer_to`, `table_after`), `order`
unfoldable pub engine_reply : Table → Call → Reply
engine_reply s (refine bytes) = refine_says (answer_to s bytes)
engine_reply s (order a b) = order_says (table.order s.columns s.count a b)

-- the next call gets the columns as this one left them and the count that the last accepted refine answered
unfoldable pub engine_after : Table → Call → Table
engine_after s (refine bytes) = table_after s bytes
engine_after s (order a b) = s

unfoldable pub engine_replies : Table → List Call → List Reply
engine_replies s [] = []
engine_replies s (k ∷ ks) = engine_reply s k ∷ engine_replies (engine_after s k) ks

unfoldable pub engine_end : Table → List Call → Table
engine_end s [] = s
engine_end s (k ∷ ks) = engine_end (engine_after s k) ks

-- the list starts from the columns that an accepted fresh left, with count 1
unfoldable pub engine_start : (c : Columns) (id quota : ℕ) → Table
engine_start c id quota = record { columns = afterwards (fresh_rows c id quota) c; count = 1 }
