-- There is room for the rows that an accepted request leads to.
use mathlib.Core.Path.{◌≡◌, ap}
use mathlib.Core.List.{List}
use Prim.Native.Nat.{ℕ, ◌≤◌}
use native.Mathlib.Omega.{arith}
use lib.ListN.{length}
use Rattle.rules.specs.Answers.{answer}
use Rattle.rules.specs.Limits.{most_rows}
use Rattle.rules.proofs.Answers.{same_answer, then_answer}
use Rattle.request.specs.Reading.{request_of}
use Rattle.request.specs.Acceptance.{accepted}
use Rattle.request.proofs.Accepting.{request_accepted}
use Rattle.table.specs.declared.Row.{Row}
use Rattle.table.specs.Columns.{Columns}
use Rattle.table.specs.Check.{checked}
use Rattle.table.proofs.Passing.{check_passed}
use Rattle.refine.specs.Refine.{groups_of, refined, exploded_rows}
use Rattle.refine.proofs.Lookup.{groups_length}
use Rattle.refine.proofs.Written.{refined_length}

-- no more than the columns hold
pub refined_fits : (c : Columns) (count : ℕ) (bytes : List ℕ) {t : List Row} → refined c count bytes ≡ answer t → length t ≤ length c.id
unfolding refined exploded_rows
refined_fits c count bytes e =
    let checks = then_answer (checked c count) _ e in
    let reads = then_answer (request_of bytes) _ checks.2 in
    let accepts = then_answer (accepted (length c.id) (groups_of checks.0) reads.0) _ reads.2 in
    let ok = (request_accepted (length c.id) (groups_of checks.0) reads.0 accepts.1).0 in
    omega (arith, ap length (same_answer accepts.2), refined_length reads.0 checks.0 ok.once, ok.fits, groups_length checks.0)

-- so they are at most the most rows
pub refined_most : (c : Columns) (count : ℕ) (bytes : List ℕ) (t : List Row) → refined c count bytes ≡ answer t → length t ≤ most_rows
unfolding refined
refined_most c count bytes t e =
    let p = (check_passed c count (then_answer (checked c count) _ e).1).0 in
    omega (arith, refined_fits c count bytes e, p.lengths.most)
