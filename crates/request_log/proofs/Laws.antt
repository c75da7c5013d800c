-- Where a log's parts stand, and its requests one after another.
use mathlib.Core.Path.{◌≡◌, refl, ap}
use mathlib.Core.List.{List}
use Prim.Native.Nat.{ℕ, zero, suc, ◌+◌, ◌-◌, ◌<◌, ◌≤◌}
use native.Mathlib.Omega.{arith}
use lib.Dec.{ltb}
use lib.ListN.{length}
use borrow.Author.Tests.{ltb-false, lt-ltb, le-ltb, le-leb, lt-leb}
use Rattle.rules.specs.Answers.{answer, refused}
use Rattle.rules.proofs.Answers.{same_answer, peel, then_answer}
use Rattle.number.specs.Number.{found, number_at}
use Rattle.number.proofs.Laws.{number_ends}
use Rattle.request_log.specs.declared.Pair.{Pair}
use Rattle.request_log.specs.declared.Part.{Part}
use Rattle.request_log.specs.Log.{pair_of, part_at, bytes_in, no_more, one_more, part_then, requests_from}

-- ## The pair

-- the requests start within the log
pub pair_in : (log : List ℕ) (p : Pair) → pair_of log ≡ answer p → p.next ≤ length log
unfolding pair_of
pair_in log p e =
    let i = then_answer (number_at log 0) _ e in
    let q = then_answer (number_at log i.0.next) _ i.2 in
    let n : q.0.next ≡ p.next = ap (λ (x : Pair). x.next) (same_answer q.2) in
    omega (arith, number_ends log i.0.next q.1)

-- ## A part

module _ (log : List ℕ) (at : ℕ) where
  pub length_bad : {n : ℕ} → number_at log at ≡ refused n → part_at log at ≡ refused n
  unfolding part_at
  length_bad e = rw e

  pub length_over : {value next : ℕ} → number_at log at ≡ found value next → length log - next < value → part_at log at ≡ refused 1
  unfolding part_at
  length_over e h = rw (e, lt-ltb _ _ h)

  pub length_good : {value next : ℕ} → number_at log at ≡ found value next → value ≤ length log - next
      → part_at log at ≡ answer (record { start = next; end = next + value })
  unfolding part_at
  length_good e h = rw (e, le-ltb _ _ h)

  -- a request stands after its length and within the log
  pub part_in : (p : Part) → part_at log at ≡ answer p → (at < p.start) × (p.start ≤ p.end) × (p.end ≤ length log)
  unfolding part_at
  part_in p e =
      let a = then_answer (number_at log at) _ e in
      let b = peel (ltb (length log - a.0.next) a.0.value) _ _ a.2 in
      let f = same_answer b.1 in
      let s : a.0.next ≡ p.start = ap (λ (x : Part). x.start) f in
      let t : a.0.next + a.0.value ≡ p.end = ap (λ (x : Part). x.end) f in
      let n : (at < a.0.next) × (a.0.next ≤ length log) = number_ends log at a.1 in
      let l : a.0.value ≤ length log - a.0.next = ltb-false _ _ b.0 in
      (omega arith, omega arith, omega arith)

  -- ## The requests

  -- the log ends
  pub stop : (k : ℕ) → length log ≤ at → requests_from k log at ≡ no_more (answer tt)
  unfolding requests_from
  stop zero h = refl
  stop (suc k) h = rw (le-leb _ _ h)

  -- a length is bad
  pub no_more_lem : (k : ℕ) {n : ℕ} → at < length log → part_at log at ≡ refused n → requests_from (suc k) log at ≡ no_more (refused n)
  unfolding requests_from part_then
  no_more_lem k h e = rw (lt-leb _ _ h, e)

  pub bad : (k : ℕ) {n : ℕ} → length log ≤ at + k → at < length log → part_at log at ≡ refused n → requests_from k log at ≡ no_more (refused n)
  bad zero l h e = absurd (omega arith)
  bad (suc k) l h e = no_more_lem k h e

  -- a request, and then others
  pub one_more_lem : (k : ℕ) {p : Part} → at < length log → part_at log at ≡ answer p → requests_from (suc k) log at ≡ one_more (bytes_in log p) (requests_from k log p.end)
  unfolding requests_from part_then
  one_more_lem k h e = rw (lt-leb _ _ h, e)

  -- the same where the count of requests is enough for the log
  pub goes_on : (k : ℕ) {p : Part} → length log ≤ at + k → at < length log → part_at log at ≡ answer p
      → (j : ℕ) × (requests_from k log at ≡ one_more (bytes_in log p) (requests_from j log p.end)) × (length log ≤ p.end + j)
  goes_on zero l h e = absurd (omega arith)
  goes_on (suc k) {p} l h e = (k, one_more_lem k h e, omega (arith, part_in p e))
