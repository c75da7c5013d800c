-- The table that fresh writes: its one row, and that it passes the check.
use mathlib.Core.Path.{◌≡◌}
use mathlib.Core.Bool.{false}
use mathlib.Core.List.{[], ◌∷◌}
use Prim.Native.Nat.{ℕ, ◌+◌, ◌-◌, ◌≤◌}
use native.Mathlib.Omega.{arith}
use lib.Dec.{eqb}
use lib.ListN.{length}
use borrow.Author.Tests.{le-ltb}
use Rattle.rules.specs.Answers.{answer}
use Rattle.rules.specs.Limits.{greatest}
use Rattle.table.specs.Columns.{Columns, put}
use Rattle.table.specs.declared.Row.{Row}
use Rattle.table.specs.Check.{some_row, some_pair, value_bad, lengths_bad, sound_rows, checked}
use Rattle.table.proofs.Rows.{rows_put}
use Rattle.table.proofs.Lengths.{lengths_good, good_count, put_length, put_lengths}
use Rattle.fresh.specs.Fresh.{fresh_rows}

-- the row that fresh writes
abbrev pub fresh_row : (id quota : ℕ) → Row
fresh_row id quota = record { id = id; l = 1; r = 1; q = quota }

module _ (id quota : ℕ) (some : eqb id 0 ≡ false) (quota_some : eqb quota 0 ≡ false) where
  pub fresh_rows_lem : (c : Columns) → lengths_bad c ≡ false → fresh_rows c id quota ≡ answer (fresh_row id quota ∷ [])
  unfolding fresh_rows
  fresh_rows_lem c h = rw (h, some, quota_some)

  pub fresh_sound : quota ≤ greatest → sound_rows (fresh_row id quota ∷ []) ≡ answer (fresh_row id quota ∷ [])
  unfolding sound_rows some_row some_pair value_bad
  fresh_sound h =
      let k : 1 + quota - 1 ≤ greatest = omega arith in
      rw (some, quota_some, le-ltb greatest (1 + quota - 1) k)

  pub fresh_checked : (c : Columns) → lengths_bad c ≡ false → quota ≤ greatest → checked (put (fresh_row id quota ∷ []) c) 1 ≡ answer (fresh_row id quota ∷ [])
  unfolding checked
  fresh_checked c h k =
      let l : 1 ≤ length c.id = (lengths_good c h).some in
      rw (put_lengths (fresh_row id quota ∷ []) c h l, put_length (fresh_row id quota ∷ []) c l, good_count (length c.id) 1 (omega arith) l, rows_put (fresh_row id quota ∷ []) c) (fresh_sound k)
