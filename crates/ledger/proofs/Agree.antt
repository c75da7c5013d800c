-- What every call keeps: the table's rows and the ledger agree.
use Prim.Native.Nat.{ℕ, ◌≤◌}
use mathlib.Core.Path.{◌≡◌, sym, ◌∙◌}
use mathlib.Core.Bool.{Bool, false}
use mathlib.Core.List.{List}
use lib.ListN.{length}
use Rattle.rules.specs.Answers.{answer}
use Rattle.request.specs.Entries.{times, Same}
use Rattle.table.specs.declared.Row.{Row}
use Rattle.table.specs.Columns.{low_l, low_r, l_of, r_of, Table, rows_in}
use Rattle.table.specs.Check.{lengths_bad, sound_rows}
use Rattle.order.specs.Order.{subgroup}
use Rattle.refine.specs.Refine.{groups_of, row_in}
use Rattle.promises.specs.Theorems.{subgroup_in}
use Rattle.promises.proofs.Refinement.{by_rows}
use Rattle.ledger.specs.Ledger.{Ledger, afresh_l, afresh_r}

-- the box of the group x begins at or before that of y, in l and in r
abbrev pub begins_in : List Row → ℕ → ℕ → Bool
begins_in t x y = let w = row_in x t in let v = row_in y t in subgroup (low_l w) (low_r w) (low_l v) (low_r v)

pub record Agree (t : List Row) (g : Ledger) : Type 0 where
  pub sound : sound_rows t ≡ answer t
  -- table and both sequences hold the ledger's groups
  pub table : Same (groups_of t) g.groups
  pub lefts : Same g.left g.groups
  pub rights : Same g.right g.groups
  -- the numbers are those worked out afresh, and the ledger's order is that of where the boxes begin
  pub numbers : (x : ℕ) → 1 ≤ times x g.groups → (l_of x t ≡ afresh_l g x) × (r_of x t ≡ afresh_r g x)
  pub ordered : (x y : ℕ) → 1 ≤ times x g.groups → 1 ≤ times y g.groups → g.order x y ≡ begins_in t x y
  -- the order is on the ids of the state
  pub below_known : (x y : ℕ) → times x g.groups ≡ 0 → g.order x y ≡ false
  pub above_known : (x y : ℕ) → times y g.groups ≡ 0 → g.order x y ≡ false

-- two groups' numbers compare as their boxes begin, so the ledger's order is that of the numbers
module _ {t : List Row} {g : Ledger} (a : Agree t g) (x y : ℕ) where
  pub by_numbers : 1 ≤ times x g.groups → 1 ≤ times y g.groups → g.order x y ≡ subgroup_in t x y
  by_numbers j k = a.ordered x y j k ∙ sym (by_rows t x y)

-- columns and count pass 10, and their rows agree with a ledger of that column length
pub record Meets (s : Table) (g : Ledger) : Type 0 where
  pub lengths : lengths_bad s.columns ≡ false
  pub room : length s.columns.id ≡ g.column_length
  pub some : 1 ≤ s.count
  pub most : s.count ≤ length s.columns.id
  pub agree : Agree (rows_in s) g
