-- A group's row, and the index at which its id stands.
use mathlib.Core.Path.{◌≡◌, sym, ◌∙◌}
use Prim.Native.Nat.{ℕ, zero, suc, ◌-◌, ◌≤◌, ◌<◌}
use native.Mathlib.Omega.{arith}
use lib.Dec.{ltb}
use lib.ListN.{length, get_or}
use borrow.Author.Tests.{eq-eqb, ne_eqb, lt-ltb, le-ltb}
use Rattle.std.specs.Prelude.{cond, Some, None}
use Rattle.std.specs.Option.{ok_or}
use Rattle.rules.specs.Answers.{answer, refused}
use Rattle.rules.specs.Says.{says}
use Rattle.rules.proofs.Cases.{by_lt}
use Rattle.table.specs.Columns.{Columns, row_at, rows_from, rows}
use Rattle.rules.specs.declared.Refusal.TheVariants.{IdUnknown}
use Rattle.table.specs.Places.{place_of}
use Rattle.table.specs.Inside.Places.{PlaceIn}
use Rattle.table.proofs.Places.{NoneOf, place_at}
use Rattle.order.specs.Order.{row_of}

module _ (c : Columns) (n x : ℕ) where
  -- rows that don't have the id are passed
  passed : (i : ℕ) → i ≤ n → NoneOf c.id i x → row_of (rows c n) x ≡ row_of (rows_from c i (n - i)) x
  unfolding row_of rows_from
  passed zero h f = let e : n - 0 ≡ n = omega arith in rw e
  passed (suc i) h f =
      let e : n - i ≡ suc (n - suc i) = omega arith in
      passed i (omega arith) (λ k l. f k (omega arith)) ∙ rw (e, ne_eqb (get_or c.id i 0) x (f i (omega arith)))

  module _ {i : ℕ} (p : PlaceIn c.id n x i) where
    pub row_there : i < n → row_of (rows c n) x ≡ answer (row_at c i)
    unfolding row_of rows_from
    row_there h =
        let e : n - i ≡ suc (n - suc i) = omega arith in
        passed i p.most p.before ∙ rw (e, eq-eqb (get_or c.id i 0) x (p.there h))

    missing : i ≡ n → row_of (rows c n) x ≡ refused 20
    unfolding row_of rows_from
    missing h = let e : n - i ≡ 0 = omega arith in passed i p.most p.before ∙ rw e

  -- the row at the index of an id, or 20 where that is no row's
  pub row_says : {i : ℕ} → n ≤ length c.id → i ≡ place_of c.id n x
      → says (ok_or (cond (ltb i n) (Some (row_at c i)) None) IdUnknown) ≡ row_of (rows c n) x
  row_says {i} h e =
      let p = place_at h e in
      by_lt i n
      (λ k. rw (lt-ltb i n k) (sym (row_there p k)))
      (λ k. rw (le-ltb i n k) (sym (missing p (let m = p.most in omega arith))))
