-- A fresh table and a fresh ledger agree.
use mathlib.Core.Path.{◌≡◌, refl}
use mathlib.Core.Bool.{Bool, true, false, ◌||◌, and-false}
use mathlib.Core.List.{[], ◌∷◌}
use Prim.Native.Nat.{ℕ, ◌+◌, ◌≤◌}
use native.Mathlib.Omega.{arith}
use lib.Dec.{eqb}
use lib.ListN.{length}
use Rattle.rules.specs.Limits.{greatest}
use Rattle.rules.proofs.Answers.{peel, then_answer}
use Rattle.rules.proofs.Bools.{or_none}
use Rattle.request.specs.Entries.{pick}
use Rattle.request.proofs.Numbering.{pick_false}
use Rattle.table.specs.Columns.{Columns}
use Rattle.table.specs.Check.{lengths_bad}
use Rattle.fresh.specs.Fresh.{fresh_rows}
use Rattle.fresh.proofs.Laws.{fresh_row, fresh_rows_lem, fresh_sound}
use Rattle.order.specs.Order.{subgroup}
use Rattle.table.proofs.Rows.{rows_put}
use Rattle.table.proofs.Lengths.{lengths_good, put_length, put_lengths}
use Rattle.ledger.specs.Ledger.{fresh_ledger}
use Rattle.ledger.specs.Calls.{engine_start}
use Rattle.ledger.specs.Demand.{FreshAccepted}
use Rattle.ledger.proofs.Agree.{Agree, Meets}

one_group : (b : Bool) → 1 ≤ pick b 1 0 + 0 → b ≡ true
one_group true h = refl
one_group false h = absurd (omega arith)

module _ (c : Columns) (id quota : ℕ) where
  record Good : Type 0 where
    lengths : lengths_bad c ≡ false
    id_some : eqb id 0 ≡ false
    quota_some : eqb quota 0 ≡ false

  fresh_good : FreshAccepted c id quota → Good
  unfolding fresh_rows
  fresh_good f =
      let a = then_answer (fresh_rows c id quota) _ f.accepted in
      let b = peel (lengths_bad c) _ _ a.1 in
      let d = peel (eqb id 0 || eqb quota 0) _ _ b.1 in
      let e = or_none (eqb id 0) (eqb quota 0) d.0 in
      record { lengths = b.0; id_some = e.0; quota_some = e.1 }

  agree_fresh : Good → quota ≤ greatest → (n : ℕ) → Agree (fresh_row id quota ∷ []) (fresh_ledger n id quota)
  unfolding fresh_ledger subgroup
  agree_fresh g h n = record {
    sound = fresh_sound id quota g.id_some g.quota_some h;
    table = λ f. refl;
    lefts = λ f. refl;
    rights = λ f. refl;
    numbers = λ x k. rw (one_group (eqb x id) k) (refl, refl);
    ordered = λ x y j k. rw (one_group (eqb x id) j, one_group (eqb y id) k);
    below_known = λ x y k. rw (pick_false (eqb x id) (omega arith));
    above_known = λ x y k. rw (pick_false (eqb y id) (omega arith)) (and-false (eqb x id));
  }

  pub meets_fresh : FreshAccepted c id quota → Meets (engine_start c id quota) (fresh_ledger (length c.id) id quota)
  unfolding engine_start fresh_ledger
  meets_fresh f =
      let g = fresh_good f in
      let k : 1 ≤ length c.id = (lengths_good c g.lengths).some in
      rw (fresh_rows_lem id quota g.id_some g.quota_some c g.lengths)
      (record {
        lengths = put_lengths (fresh_row id quota ∷ []) c g.lengths k;
        room = put_length (fresh_row id quota ∷ []) c k;
        some = omega arith;
        most = omega (arith, put_length (fresh_row id quota ∷ []) c k);
        agree = rw (rows_put (fresh_row id quota ∷ []) c) (agree_fresh g f.quota_32 (length c.id));
      })
