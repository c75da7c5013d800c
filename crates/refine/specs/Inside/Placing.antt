-- Writing the entries of an accepted request into the columns: the exploded id's row, and the next rows for the others.
use Rattle.std.specs.Prelude.{cond, List, [], ◌∷◌, ℕ, suc, ◌+◌, ◌≤◌, ◌<◌, eqb, length, get_or, set, take}
use Rattle.rules.specs.Capacities.{entry_capacity}
use Rattle.rules.specs.Limits.{greatest}
use Rattle.table.specs.Columns.{Columns, columns}
use Rattle.judging.specs.Ids.{times_in}
use Rattle.refine.specs.declared.Accepted.{Accepted}

-- each id's value, with `base` added, is written in turn: at row `own` for the id u, else at the next row
unfoldable pub placed : (u own next base : ℕ) (ids values column : List ℕ) → List ℕ
placed u own next base [] values column = column
placed u own next base (x ∷ ids) [] column = column
placed u own next base (x ∷ ids) (v ∷ values) column =
    cond (eqb u x) (placed u own next base ids values (set column own (base + v))) (placed u own (suc next) base ids values (set column next (base + v)))

-- the entries of an accepted request, written into all four columns; the numbers are counted from the exploded group's
abbrev pub placed_all : Accepted → (ids quotas l r : List ℕ) → Columns → Columns
placed_all a ids quotas l r c =
    columns (placed a.exploded a.own a.next 0 (take a.entries ids) (take a.entries ids) c.id)
    (placed a.exploded a.own a.next a.old.l (take a.entries ids) (take a.entries l) c.l)
    (placed a.exploded a.own a.next a.old.r (take a.entries ids) (take a.entries r) c.r)
    (placed a.exploded a.own a.next 0 (take a.entries ids) (take a.entries quotas) c.q)

-- a column has a row for each of the ids but u, from row `next` on
abbrev pub HasRows : (u own next : ℕ) (ids column : List ℕ) → Type 0
HasRows u own next ids column = (own < next) × (next + length ids ≤ length column + times_in u ids)

-- no value passes the greatest number
abbrev pub Bounded : ℕ → List ℕ → Type 0
Bounded base values = (k : ℕ) → k < length values → base + get_or values k 0 ≤ greatest

-- the entries can be written: they stand in the work columns, the table's columns have their rows, and the numbers fit
pub record CanPlace (a : Accepted) (ids quotas l r : List ℕ) (c : Columns) : Type 0 where
  pub most : a.entries ≤ entry_capacity
  pub in_ids : a.entries ≤ length ids
  pub in_quotas : a.entries ≤ length quotas
  pub in_l : a.entries ≤ length l
  pub in_r : a.entries ≤ length r
  pub next_in : a.next ≤ length c.id
  pub id_rows : HasRows a.exploded a.own a.next (take a.entries ids) c.id
  pub l_rows : HasRows a.exploded a.own a.next (take a.entries ids) c.l
  pub r_rows : HasRows a.exploded a.own a.next (take a.entries ids) c.r
  pub q_rows : HasRows a.exploded a.own a.next (take a.entries ids) c.q
  pub ids_bounded : Bounded 0 (take a.entries ids)
  pub l_bounded : Bounded a.old.l (take a.entries l)
  pub r_bounded : Bounded a.old.r (take a.entries r)
  pub quotas_bounded : Bounded 0 (take a.entries quotas)
