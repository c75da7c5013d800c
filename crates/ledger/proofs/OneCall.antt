-- One call: the engine answers as the ledger does, and table and ledger agree after it.
use mathlib.Core.Path.{◌≡◌, refl, ap, sym, ◌∙◌}
use mathlib.Core.Bool.{false}
use mathlib.Core.List.{List}
use mathlib.Core.Logic.{◌≢◌}
use Prim.Native.Nat.{ℕ, ◌≤◌}
use native.Mathlib.Omega.{arith}
use lib.ListN.{length}
use borrow.Author.Tests.{eqb-false}
use Rattle.rules.specs.Answers.{Answer, answer, refused, then}
use Rattle.rules.proofs.Answers.{by_answer}
use Rattle.request.specs.Entries.{times}
use Rattle.request.specs.Request.{Request}
use Rattle.request.specs.Reading.{request_of}
use Rattle.request.specs.Acceptance.{accepted}
use Rattle.request.proofs.Sums.{same_length}
use Rattle.table.specs.Columns.{put}
use Rattle.table.specs.Check.{checked}
use Rattle.order.specs.Order as table
use Rattle.table.proofs.Rows.{rows_length, rows_put}
use Rattle.table.proofs.Lengths.{good_count, put_length, put_lengths}
use Rattle.refine.specs.Refine.{groups_of, refine_rows, exploded_rows, refined}
use Rattle.table.specs.Columns.{l_of, r_of}
use Rattle.refine.proofs.Lookup.{groups_length}
use Rattle.promises.proofs.Cutting.{Refining}
use Rattle.promises.proofs.Refinement.{refining, promised}
use Rattle.ledger.specs.Ledger.{Ledger, accepted_by, exploded_ledger, ledger_refined, ledger_order}
use Rattle.ledger.specs.Calls.{Call, refine, order, refine_says, order_says, ledger_reply, ledger_after, explodes, engine_reply, engine_after}
use Rattle.table.specs.Columns.{Table, rows_in}
use Rattle.ledger.proofs.Agree.{Meets}
use Rattle.ledger.proofs.Step.{agree_after, unmoved}
use Rattle.request.proofs.Accepting.{accepted_alike}
use Rattle.ledger.proofs.Answering.{order_alike, accepted_parts}

module _ {s : Table} {g : Ledger} (m : Meets s g) where
  -- the check of the columns passes
  passes : checked s.columns s.count ≡ answer (rows_in s)
  unfolding checked
  passes = rw (m.lengths, good_count (length s.columns.id) s.count m.some m.most) m.agree.sound

  pub orders_alike : (a b : ℕ) → table.order s.columns s.count a b ≡ ledger_order g a b
  unfolding table.order
  orders_alike a b = rw passes (order_alike (rows_in s) g m.agree a b)

  accepted_here : (q : Request) → accepted (length s.columns.id) (groups_of (rows_in s)) q ≡ accepted g.column_length g.groups q
  accepted_here q = accepted_alike (length s.columns.id) (groups_of (rows_in s)) g.groups q m.agree.table ∙ rw m.room

  -- a request that the ledger accepts, and one that it refuses
  module _ (bytes : List ℕ) where
    refines_here : {q : Request} → accepted_by g bytes ≡ answer q → Refining (length s.columns.id) q (rows_in s)
    refines_here {q} e =
        let p = accepted_parts g bytes e in
        refining (length s.columns.id) (rows_in s) bytes q m.agree.sound p.0 (accepted_here q ∙ p.1)

    refined_accepted : {q : Request} → accepted_by g bytes ≡ answer q → refined s.columns s.count bytes ≡ answer (refine_rows q (rows_in s))
    unfolding refined exploded_rows
    refined_accepted {q} e = let p = accepted_parts g bytes e in rw (passes, p.0, accepted_here q, p.1)

    refined_refused : {n : ℕ} → accepted_by g bytes ≡ refused n → refined s.columns s.count bytes ≡ refused n
    unfolding refined exploded_rows accepted_by
    refined_refused {n} e = rw passes (go (request_of bytes) e)
      where
        go : (r : Answer Request) → then r (λ q. accepted g.column_length g.groups q) ≡ refused n
            → then r (λ q. then (accepted (length s.columns.id) (groups_of (rows_in s)) q) λ _. answer (refine_rows q (rows_in s))) ≡ refused n
        go (answer q) e = rw (accepted_here q, e)
        go (refused k) e = let f : k ≡ n = cc in ap refused f

    abbrev new : Request → Table
    new q = record { columns = put (refine_rows q (rows_in s)) s.columns; count = length (refine_rows q (rows_in s)) }

    meets_new : {q : Request} → accepted_by g bytes ≡ answer q → Meets (new q) (exploded_ledger q g)
    unfolding exploded_ledger
    meets_new {q} e =
        let h = refines_here e in
        let t = refine_rows q (rows_in s) in
        let fits = (promised h).refined_fits in
        let k = put_length t s.columns fits in
        record {
          lengths = put_lengths t s.columns m.lengths fits;
          room = k ∙ m.room;
          some = omega (arith, (promised h).refined_length, h.read.entries_some, rows_length s.columns 0 s.count);
          most = omega arith;
          agree = rw (rows_put t s.columns) (agree_after g m.agree h);
        }

-- what a request does: accepted or refused, to both alike
module _ {s : Table} {g : Ledger} (m : Meets s g) (bytes : List ℕ) where
  says_accepted : {q : Request} → accepted_by g bytes ≡ answer q → engine_reply s (refine bytes) ≡ ledger_reply g (refine bytes)
  unfolding engine_reply ledger_reply ledger_refined
  says_accepted {q} e =
      let t = refine_rows q (rows_in s) in
      let same = (agree_after g m.agree (refines_here m bytes e)).table in
      rw (refined_accepted m bytes e, e)
      (ap (λ n. refine_says (answer n)) (sym (groups_length t) ∙ same_length (groups_of t) (exploded_ledger q g).groups same))

  says_refused : {n : ℕ} → accepted_by g bytes ≡ refused n → engine_reply s (refine bytes) ≡ ledger_reply g (refine bytes)
  unfolding engine_reply ledger_reply ledger_refined
  says_refused e = rw (refined_refused m bytes e, e)

  after_accepted : {q : Request} → accepted_by g bytes ≡ answer q
      → (engine_after s (refine bytes) ≡ new m bytes q) × (ledger_after g (refine bytes) ≡ exploded_ledger q g)
  unfolding engine_after ledger_after ledger_refined
  after_accepted e = (rw (refined_accepted m bytes e), rw e)

  after_refused : {n : ℕ} → accepted_by g bytes ≡ refused n → (engine_after s (refine bytes) ≡ s) × (ledger_after g (refine bytes) ≡ g)
  unfolding engine_after ledger_after ledger_refined
  after_refused e = (rw (refined_refused m bytes e), rw e)

-- one call
order_says_lem : (s : Table) (g : Ledger) → Meets s g → (a b : ℕ) → engine_reply s (order a b) ≡ ledger_reply g (order a b)
unfolding engine_reply ledger_reply
order_says_lem s g m a b = ap order_says (orders_alike m a b)

pub says_alike : (s : Table) (g : Ledger) → Meets s g → (k : Call) → engine_reply s k ≡ ledger_reply g k
says_alike s g m (refine bytes) = by_answer (accepted_by g bytes) (λ q e. says_accepted m bytes e) (λ n e. says_refused m bytes e)
says_alike s g m (order a b) = order_says_lem s g m a b

-- a group that the call does not explode is still there, with its numbers
pub record Unmoved (x : ℕ) (s s' : Table) (g' : Ledger) : Type 0 where
  pub there : 1 ≤ times x g'.groups
  pub l_stays : l_of x (rows_in s') ≡ l_of x (rows_in s)
  pub r_stays : r_of x (rows_in s') ≡ r_of x (rows_in s)

meets_refine : (s : Table) (g : Ledger) → Meets s g → (bytes : List ℕ) → Meets (engine_after s (refine bytes)) (ledger_after g (refine bytes))
meets_refine s g m bytes =
    by_answer (accepted_by g bytes)
    (λ q e. let a = after_accepted m bytes e in rw (a.0, a.1) (meets_new m bytes e))
    (λ n e. let a = after_refused m bytes e in rw (a.0, a.1) m)

pub meets_after : (s : Table) (g : Ledger) → Meets s g → (k : Call) → Meets (engine_after s k) (ledger_after g k)
unfolding engine_after ledger_after
meets_after s g m (refine bytes) = meets_refine s g m bytes
meets_after s g m (order a b) = m

unmoved_new : (s : Table) (g : Ledger) (m : Meets s g) (bytes : List ℕ) {q : Request} → accepted_by g bytes ≡ answer q → (x : ℕ) → x ≢ q.exploded
    → 1 ≤ times x g.groups → Unmoved x s (new m bytes q) (exploded_ledger q g)
unmoved_new s g m bytes {q} e x n k =
    let u = unmoved g m.agree (refines_here m bytes e) x n k in
    let r = rows_put (refine_rows q (rows_in s)) s.columns in
    record { there = u.0; l_stays = rw r u.1; r_stays = rw r u.2 }

stays_refine : (s : Table) (g : Ledger) → Meets s g → (bytes : List ℕ) (x : ℕ) → 1 ≤ times x g.groups → explodes x g (refine bytes) ≡ false
    → Unmoved x s (engine_after s (refine bytes)) (ledger_after g (refine bytes))
unfolding explodes
stays_refine s g m bytes x h quiet =
    by_answer (accepted_by g bytes)
    (λ q e. let a = after_accepted m bytes e in rw (a.0, a.1) (unmoved_new s g m bytes e x (eqb-false x q.exploded (rw e at quiet)) h))
    (λ n e. let a = after_refused m bytes e in rw (a.0, a.1) (record { there = h; l_stays = refl; r_stays = refl }))

pub stays : (s : Table) (g : Ledger) → Meets s g → (k : Call) (x : ℕ) → 1 ≤ times x g.groups → explodes x g k ≡ false
    → Unmoved x s (engine_after s k) (ledger_after g k)
unfolding engine_after ledger_after
stays s g m (refine bytes) x h quiet = stays_refine s g m bytes x h quiet
stays s g m (order a b) x h quiet = record { there = h; l_stays = refl; r_stays = refl }
