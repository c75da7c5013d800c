-- The paper ledger (RULES.md, 15). It is fed the column length, the fresh id and quota, and the calls' bytes and ids, and nothing from the table.
-- With the engine it shares how a request is read and accepted, its sequences, `before`, `without`, the names of the order's answers (`order_by`), and in Decisions the dating of windows.
use Rattle.std.specs.Prelude.{ℕ, ◌+◌, Bool, cond, not, ◌&&◌, ◌||◌, List, [], ◌∷◌, ◌++◌, eqb}
use Rattle.rules.specs.Answers.{Answer, answer, refused, then}
use Rattle.request.specs.Entries.{Entry, entry, has, before, without}
use Rattle.request.specs.Forest.{tree_order}
use Rattle.request.specs.Request.{Request, entries, left_of, right_of}
use Rattle.request.specs.Reading.{request_of}
use Rattle.request.specs.Acceptance.{accepted}
use Rattle.order.specs.declared.Ordered.{Ordered}
use Rattle.order.specs.Order.{order_by}

-- State: column length, ids with quotas, an order on the ids, sequences L and R
pub record Ledger : Type 0 where
  pub column_length : ℕ
  pub groups : List Entry
  pub order : ℕ → ℕ → Bool
  pub left : List Entry
  pub right : List Entry

-- Fresh: one id with its quota, id ≤ id, both sequences that id alone
unfoldable pub fresh_ledger : (column_length id quota : ℕ) → Ledger
fresh_ledger column_length id quota = record {
  column_length = column_length;
  groups = entry id quota ∷ [];
  order = λ x y. eqb x id && eqb y id;
  left = entry id quota ∷ [];
  right = entry id quota ∷ [];
}

-- A request is read by the rules above and refused by the same numbers, found from this state
unfoldable pub accepted_by : Ledger → List ℕ → Answer Request
accepted_by g bytes = then (request_of bytes) λ q. accepted g.column_length g.groups q

-- a group of the old state other than u; an entry
unfoldable pub is_other : Request → Ledger → ℕ → Bool
is_other q g x = not (eqb x q.exploded) && has x g.groups

abbrev pub is_entry : Request → ℕ → Bool
is_entry q x = has x (entries q)

-- old pairs without u stay
unfoldable pub stays_below : Request → Ledger → ℕ → ℕ → Bool
stays_below q g x y = not (eqb x q.exploded) && (not (eqb y q.exploded) && g.order x y)

-- for every group x of the old state other than u, x ≤ each entry if x ≤ u in the old order,
unfoldable pub below_entries : Request → Ledger → ℕ → ℕ → Bool
below_entries q g x e = is_other q g x && (is_entry q e && g.order x q.exploded)

-- and each entry ≤ x if u ≤ x there
unfoldable pub above_entries : Request → Ledger → ℕ → ℕ → Bool
above_entries q g e x = is_other q g x && (is_entry q e && g.order q.exploded x)

-- each entry ≤ itself
unfoldable pub itself : Request → ℕ → ℕ → Bool
itself q x y = is_entry q x && eqb x y

-- entries among themselves by their trees
unfoldable pub by_trees : Request → ℕ → ℕ → Bool
by_trees q x y = tree_order q.direction q.trees x y

unfoldable pub order_after : Request → Ledger → ℕ → ℕ → Bool
order_after q g x y = stays_below q g x y || (below_entries q g x y || (above_entries q g x y || (itself q x y || by_trees q x y)))

-- a sequence in which u is replaced by others
unfoldable pub replace : (u : ℕ) (others : List Entry) → List Entry → List Entry
replace u others [] = []
replace u others (e ∷ s) = cond (eqb u e.id) (others ++ s) (e ∷ replace u others s)

-- Accepted, it removes the exploded id u, adds the entries, and sets the order; in both sequences u is replaced by the request's own
unfoldable pub exploded_ledger : Request → Ledger → Ledger
exploded_ledger q g = record {
  column_length = g.column_length;
  groups = without q.exploded g.groups ++ entries q;
  order = order_after q g;
  left = replace q.exploded (left_of q) g.left;
  right = replace q.exploded (right_of q) g.right;
}

unfoldable pub ledger_refined : Ledger → List ℕ → Answer Ledger
ledger_refined g bytes = then (accepted_by g bytes) λ q. answer (exploded_ledger q g)

-- Order gives 20 for an id not in the state, else same for one id named twice, else what the order on the ids says, incomparable where neither is ≤ the other
unfoldable pub ledger_order : Ledger → ℕ → ℕ → Answer Ordered
ledger_order g a b =
    cond (not (has a g.groups) || not (has b g.groups)) (refused 20) (answer (order_by (eqb a b) (g.order a b) (g.order b a)))

-- Afresh, l = 1 + quotas before the group in L, r the same in R
abbrev pub afresh_l : Ledger → ℕ → ℕ
afresh_l g x = 1 + before x g.left

abbrev pub afresh_r : Ledger → ℕ → ℕ
afresh_r g x = 1 + before x g.right
