-- A legal request: one within the limits of RULES.md, 1.
use Rattle.std.specs.Prelude.{ℕ, suc, ◌≤◌, leb, length}
use Rattle.rules.specs.Limits.{greatest, most_entries, greatest_depth}
use Rattle.request.specs.Entries.{pick}
use Rattle.request.specs.Forest.{Forest, none, tree}
use Rattle.request.specs.Request.{Request, entries}

-- the depth of the deepest entry; a root has depth 1
abbrev pub depth : Forest → ℕ
depth none = 0
depth (tree w c r) = pick (leb (depth r) (depth c)) (suc (depth c)) (depth r)

-- a number from 1 to the greatest; every id and quota is one
abbrev pub LegalNumber : ℕ → Type 0
LegalNumber n = (1 ≤ n) × (n ≤ greatest)

abbrev pub LegalTrees : Forest → Type 0
LegalTrees none = Unit {0}
LegalTrees (tree e c r) = LegalNumber e.id × LegalNumber e.quota × LegalTrees c × LegalTrees r

-- a request has 1 to 256 entries; the greatest depth is 16
pub record Legal (q : Request) : Type 0 where
  pub exploded : LegalNumber q.exploded
  pub trees : LegalTrees q.trees
  pub entries_some : 1 ≤ length (entries q)
  pub entries_most : length (entries q) ≤ most_entries
  pub deep : depth q.trees ≤ greatest_depth
