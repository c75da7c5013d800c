-- Refine accepts each small request from a fresh group 1 of that quota, in columns of at least that many rows.
use mathlib.Core.Path.{◌≡◌, refl, ap}
use mathlib.Core.Bool.{Bool, true, false}
use mathlib.Core.List.{[], ◌∷◌}
use mathlib.Core.Logic.{◌≢◌}
use Prim.Native.Nat.{ℕ, zero, suc, ◌+◌, ◌≤◌, ◌<◌}
use native.Mathlib.Omega.{arith}
use lib.Dec.{eqb}
use lib.ListN.{length, length-map}
use borrow.Author.Tests.{ne_eqb, eq-eqb, eqb-true}
use Rattle.rules.specs.Answers.{answer}
use Rattle.rules.specs.Limits.{greatest_depth}
use Rattle.request.specs.Entries.{entry, pick, total, times, without}
use Rattle.request.specs.Request.{Request, entries}
use Rattle.request.specs.Bytes.{request_bytes}
use Rattle.request.specs.Acceptance.{accepted}
use Rattle.request.proofs.Accepting.{accept}
use Rattle.request.proofs.Bytes.{request_back}
use Rattle.table.specs.Columns.{Columns, counted}
use Rattle.table.specs.Check.{lengths_bad}
use Rattle.table.proofs.Lengths.{put_length}
use Rattle.fresh.proofs.Laws.{fresh_row, fresh_rows_lem, fresh_checked}
use Rattle.refine.specs.Refine.{row_for, row_in, refine_rows, exploded_rows, refined}
use Rattle.small.specs.Shapes.{numbered}
use Rattle.small.specs.Small.{Small}
use Rattle.small.proofs.Small.{numbered_length}
use Rattle.small.proofs.Legal.{small_legal, in_listed}
use Rattle.small_accepted.specs.Promise.{fresh_table, RefineAccepts}

-- ## Entries with ids from i upward and quota 1 each

-- an id below the first does not come; no id comes twice
times_none : (x i n : ℕ) → x < i → times x (numbered i n) ≡ 0
times_none x i zero h = refl
times_none x i (suc n) h = rw (ne_eqb x i (λ e. omega arith)) (omega (arith, times_none x (suc i) n (omega arith)))

times_most : (x i n : ℕ) → times x (numbered i n) ≤ 1
times_most x i zero = omega arith
times_most x i (suc n) = go (eqb x i) refl (times_most x (suc i) n)
  where
    go : (b : Bool) → eqb x i ≡ b → times x (numbered (suc i) n) ≤ 1 → pick b 1 0 + times x (numbered (suc i) n) ≤ 1
    go true e h = let f = eqb-true x i e in omega (arith, times_none x (suc i) n (omega arith))
    go false e h = omega arith

times_first : (i n : ℕ) → times i (numbered i (suc n)) ≡ 1
times_first i n = rw (eq-eqb i i refl) (omega (arith, times_none i (suc i) n (omega arith)))

total_numbered : (i n : ℕ) → total (numbered i n) ≡ n
total_numbered i zero = refl
total_numbered i (suc n) = omega (arith, total_numbered (suc i) n)

others : (x i n : ℕ) → x < i → without x (numbered i n) ≡ numbered i n
others x i zero h = refl
others x i (suc n) h = rw (ne_eqb x i (λ e. omega arith), others x (suc i) n (omega arith))

-- ## Acceptance

-- an id that is not 1 is no group of the fresh table
no_group : (n x : ℕ) → x ≢ 1 → times x (entry 1 n ∷ []) ≡ 0
no_group n x h = rw (ne_eqb x 1 h)

accepts : (n room : ℕ) (q : Request) → Small n q → n ≤ room → accepted room (entry 1 n ∷ []) q ≡ answer q
accepts zero room q s h = let some = s.some in absurd (omega arith)
accepts (suc n) room q s h =
    let e = s.exploded in
    accept room (entry 1 (suc n) ∷ []) q
    (record {
      known = rw e (omega arith);
      once = rw (e, s.entries) (times_first 1 n);
      new = λ x k _. no_group (suc n) x (λ z. k (rw (e, z)));
      single = λ x. rw s.entries (times_most x 1 (suc n));
      whole = rw (e, s.entries) (omega (arith, total_numbered 1 (suc n)));
      fits = rw s.entries (omega (arith, numbered_length 1 (suc n)));
    })

-- ## Refine

rows_count : (n : ℕ) (q : Request) → Small n q → length (refine_rows q (fresh_row 1 n ∷ [])) ≡ n
unfolding refine_rows
rows_count zero q s = let some = s.some in absurd (omega arith)
rows_count (suc n) q s =
    let e : without q.exploded (entries q) ≡ numbered 2 n = rw (s.exploded, s.entries) (others 1 2 n (omega arith)) in
    rw e (omega (arith, length-map (numbered 2 n) (row_for q (row_in q.exploded (fresh_row 1 (suc n) ∷ []))), numbered_length 2 n))

-- every small request of up to 16 entries
small_accepted : (c : Columns) (n : ℕ) (q : Request) → n ≤ greatest_depth → lengths_bad c ≡ false → n ≤ length c.id → Small n q
    → counted (refined (fresh_table c n).columns 1 (request_bytes q)) ≡ answer n
unfolding refined exploded_rows
small_accepted c n q h good room s =
    let some = s.some in
    let one : eqb 1 0 ≡ false = refl in
    let quota : eqb n 0 ≡ false = ne_eqb n 0 (λ e. omega arith) in
    let l : 1 ≤ length c.id = omega arith in
    rw (
      fresh_rows_lem 1 n one quota c good,
      fresh_checked 1 n one quota c good (omega arith),
      request_back q (small_legal n q h s),
      put_length (fresh_row 1 n ∷ []) c l,
      accepts n (length c.id) q s room,
    )
    (ap answer (rows_count n q s))

pub refine_accepts : (c : Columns) (size : ℕ) → RefineAccepts c size
refine_accepts c size good room q m = let s = in_listed size q m in small_accepted c size q (omega arith) good room s.1
