-- Order depends on what the groups are, and not on their places; an accepted request was read.
use mathlib.Core.Path.{◌≡◌, refl, ap, sym, ◌∙◌}
use mathlib.Core.Bool.{true, false, cond}
use mathlib.Core.List.{List, [], ◌∷◌}
use Prim.Native.Nat.{ℕ, zero, suc, ◌+◌, ◌≤◌, ◌<◌}
use native.Mathlib.Omega.{arith}
use lib.Dec.{eqb}
use borrow.Author.Tests.{ne_eqb, le-leb, lt-leb}
use Rattle.rules.specs.Answers.{answer, refused}
use Rattle.rules.proofs.Answers.{then_answer}
use Rattle.rules.proofs.Cases.{by_eq}
use Rattle.request.specs.Entries.{pick, one_at, times}
use Rattle.request.specs.Request.{Request}
use Rattle.request.specs.Reading.{request_of}
use Rattle.request.specs.Acceptance.{accepted}
use Rattle.request.proofs.Accepting.{request_accepted}
use Rattle.table.specs.declared.Row.{Row}
use Rattle.order.specs.Order.{row_of, order_in}
use Rattle.refine.specs.Refine.{groups_of}
use Rattle.refine.proofs.Lookup.{id_row}
use Rattle.refine.specs.Refine.{row_in}
use Rattle.ledger.specs.Ledger.{Ledger, accepted_by, ledger_order}
use Rattle.ledger.proofs.Agree.{Agree}

eqb_flip : (a b : ℕ) → eqb a b ≡ eqb b a
eqb_flip a b = by_eq a b (λ e. rw e) (λ n. ne_eqb a b n ∙ sym (ne_eqb b a (λ e. n (sym e))))

-- the row of a group is found where there is one
row_found_lem : (t : List Row) (x : ℕ) → 1 ≤ times x (groups_of t) → row_of t x ≡ answer (row_in x t)
unfolding row_of
row_found_lem [] x h = absurd (omega arith)
row_found_lem (w ∷ t) x h =
    ap (λ b. cond b (answer w) (row_of t x)) (eqb_flip w.id x)
    ∙ (elim (eqb x w.id) as (λ b. 1 ≤ pick b 1 0 + times x (groups_of t) → cond b (answer w) (row_of t x) ≡ answer (cond b w (row_in x t)))
    [ true ↦ λ h. refl | false ↦ λ h. row_found_lem t x (omega arith) ]) h

row_missing : (t : List Row) (x : ℕ) → times x (groups_of t) ≡ 0 → row_of t x ≡ refused 20
unfolding row_of
row_missing [] x h = refl
row_missing (w ∷ t) x h =
    ap (λ b. cond b (answer w) (row_of t x)) (eqb_flip w.id x)
    ∙ (elim (eqb x w.id) as (λ b. pick b 1 0 + times x (groups_of t) ≡ 0 → cond b (answer w) (row_of t x) ≡ refused 20)
    [ true ↦ λ h. absurd (omega arith) | false ↦ λ h. row_missing t x (omega arith) ]) h

module _ (t : List Row) (g : Ledger) (h : Agree t g) (a b : ℕ) where
  first_missing : times a g.groups ≡ 0 → order_in t a b ≡ ledger_order g a b
  unfolding order_in ledger_order
  first_missing k =
      let z : times a g.groups < 1 = omega arith in
      rw (row_missing t a (h.table (one_at a) ∙ k), lt-leb 1 (times a g.groups) z)

  second_missing : 1 ≤ times a g.groups → times b g.groups ≡ 0 → order_in t a b ≡ ledger_order g a b
  unfolding order_in ledger_order
  second_missing k l =
      let y : 1 ≤ times a (groups_of t) = omega (arith, h.table (one_at a)) in
      let z : times b g.groups < 1 = omega arith in
      rw (row_found_lem t a y, row_missing t b (h.table (one_at b) ∙ l), le-leb 1 (times a g.groups) k, lt-leb 1 (times b g.groups) z)

  both_there : 1 ≤ times a g.groups → 1 ≤ times b g.groups → order_in t a b ≡ ledger_order g a b
  unfolding order_in ledger_order
  both_there k l =
      let y : 1 ≤ times a (groups_of t) = omega (arith, h.table (one_at a)) in
      let z : 1 ≤ times b (groups_of t) = omega (arith, h.table (one_at b)) in
      rw (
        row_found_lem t a y,
        row_found_lem t b z,
        le-leb 1 (times a g.groups) k,
        le-leb 1 (times b g.groups) l,
        id_row a t y,
        id_row b t z,
        h.ordered a b k l,
        h.ordered b a l k,
      )

  pub order_alike : order_in t a b ≡ ledger_order g a b
  order_alike = go (times a g.groups) refl (times b g.groups) refl
    where
      go : (m : ℕ) → times a g.groups ≡ m → (n : ℕ) → times b g.groups ≡ n → order_in t a b ≡ ledger_order g a b
      go zero k n l = first_missing k
      go (suc m) k zero l = second_missing (omega arith) l
      go (suc m) k (suc n) l = both_there (omega arith) (omega arith)

-- an accepted request was read, and it is the one that was accepted
pub accepted_parts : (g : Ledger) (bytes : List ℕ) {q : Request} → accepted_by g bytes ≡ answer q
    → (request_of bytes ≡ answer q) × (accepted g.column_length g.groups q ≡ answer q)
unfolding accepted_by
accepted_parts g bytes e =
    let a = then_answer (request_of bytes) _ e in
    let b = request_accepted g.column_length g.groups a.0 a.2 in
    rw (← b.1) (a.1, a.2 ∙ ap answer (sym b.1))
