-- The order of two groups (RULES.md, 8).
use Rattle.std.specs.Prelude.{ℕ, Bool, cond, ◌&&◌, List, [], ◌∷◌, eqb, leb}
use Rattle.rules.specs.Answers.{Answer, answer, refused, then}
use Rattle.table.specs.Columns.{Columns}
use Rattle.table.specs.declared.Row.{Row}
use Rattle.table.specs.Check.{checked}
use Rattle.order.specs.declared.Ordered.{Ordered}
use Rattle.order.specs.declared.Ordered.TheVariants.{Same, First, Second, Incomparable}

-- (l, r) is a subgroup of (l', r') when l ≤ l' and r ≤ r'
unfoldable pub subgroup : (l r l' r' : ℕ) → Bool
subgroup l r l' r' = leb l l' && leb r r'

-- what is said of two groups: whether they are one, whether the first is a subgroup of the second, whether the second is one of the first
unfoldable pub order_by : Bool → Bool → Bool → Ordered
order_by one up down = cond one Same (cond up First (cond down Second Incomparable))

-- the row of a group. 20: id named isn't in the table
unfoldable pub row_of : List Row → ℕ → Answer Row
row_of [] id = refused 20
row_of (w ∷ t) id = cond (eqb w.id id) (answer w) (row_of t id)

abbrev pub compare : Row → Row → Ordered
compare g h = order_by (eqb g.id h.id) (subgroup g.l g.r h.l h.r) (subgroup h.l h.r g.l g.r)

unfoldable pub order_in : List Row → ℕ → ℕ → Answer Ordered
order_in t a b = then (row_of t a) λ g. then (row_of t b) λ h. answer (compare g h)

-- 10 to 13, then 20 for either id
unfoldable pub order : Columns → ℕ → ℕ → ℕ → Answer Ordered
order c count a b = then (checked c count) λ t. order_in t a b
