-- What refine promises of the small requests.
use Rattle.std.specs.Prelude.{◌≡◌, false, ℕ, ◌≤◌, length}
use mathlib.Core.List.{Memᴰ}
use Rattle.rules.specs.Answers.{answer}
use Rattle.request.specs.Request.{Request}
use Rattle.request.specs.Bytes.{request_bytes}
use Rattle.table.specs.Columns.{Columns, Table, counted, afterwards}
use Rattle.table.specs.Check.{lengths_bad}
use Rattle.fresh.specs.Fresh.{fresh_rows}
use Rattle.refine.specs.Refine.{refined}
use Rattle.small.specs.Small.{listed}

-- the table that fresh leaves: group 1 with the quota
abbrev pub fresh_table : Columns → ℕ → Table
fresh_table c quota = record { columns = afterwards (fresh_rows c 1 quota) c; count = 1 }

-- from a fresh group 1 of the size as its quota, in columns of at least that many rows, refine accepts each request of the list, and the count that it
-- answers is the size
abbrev pub RefineAccepts : Columns → ℕ → Type 0
RefineAccepts c size =
    lengths_bad c ≡ false
    → size ≤ length c.id
    → (q : Request)
    → Memᴰ q (listed size)
    → counted (refined (fresh_table c size).columns (fresh_table c size).count (request_bytes q)) ≡ answer size
