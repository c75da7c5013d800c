-- 22 tells that an id is in the table, 26 that one comes twice among the entries.
use mathlib.Core.Path.{◌≡◌, refl, sym, ◌∙◌}
use mathlib.Core.Bool.{Bool, true, false, not, cond, ◌&&◌, ◌||◌, true≢false}
use mathlib.Core.List.{List, [], ◌∷◌}
use mathlib.Core.Logic.{◌≢◌}
use Prim.Native.Nat.{ℕ, ◌≤◌}
use native.Mathlib.Omega.{arith}
use lib.Dec.{eqb, leb}
use borrow.Author.Tests.{eqb-true, eq-eqb, eqb-false, ne_eqb, leb-true, le-leb, not-true, not-false}
use Rattle.rules.specs.Answers.{Answer, answer, refused}
use Rattle.rules.proofs.Answers.{never_refused}
use Rattle.rules.proofs.Bools.{and_both}
use Rattle.request.specs.Entries.{Entry, times, has, some_entry}
use Rattle.request.specs.Request.{Request, entries}
use Rattle.request.specs.Acceptance.{id_unknown, not_one_entry, id_in_table, id_twice, quotas_wrong, rows_full, accepted}
use Rattle.request.specs.Promise.{Named, Reused, Repeated, WhichTaken}
use Rattle.request.proofs.Sums.{count_head}
use Rattle.request.proofs.Accepting.{some_none}

-- a test that holds of another entry's id: of which
module _ (u : ℕ) (p : ℕ → Bool) where
  some_which : (s : List Entry) → some_entry (λ e. not (eqb e.id u) && p e.id) s ≡ true → (x : ℕ) × (x ≢ u) × (1 ≤ times x s) × (p x ≡ true)
  unfolding some_entry
  some_which [] h = absurd (true≢false (sym h))
  some_which (e ∷ s) h = go (some_which s) (not (eqb e.id u) && p e.id) refl h
    where
      go : (some_entry (λ e. not (eqb e.id u) && p e.id) s ≡ true → (x : ℕ) × (x ≢ u) × (1 ≤ times x s) × (p x ≡ true))
          → (b : Bool) → (not (eqb e.id u) && p e.id) ≡ b → (b || some_entry (λ e. not (eqb e.id u) && p e.id) s) ≡ true
          → (x : ℕ) × (x ≢ u) × (1 ≤ times x (e ∷ s)) × (p x ≡ true)
      go f true c k = let d = and_both (not (eqb e.id u)) (p e.id) c in (e.id, eqb-false e.id u (not-true _ d.0), count_head e.id s, d.1)
      go f false c k = let w = f k in let t = w.2 in (w.0, w.1, omega arith, w.3)

  which_some : (s : List Entry) (x : ℕ) → x ≢ u → 1 ≤ times x s → p x ≡ true → some_entry (λ e. not (eqb e.id u) && p e.id) s ≡ true
  which_some s x n k h = go (some_entry (λ e. not (eqb e.id u) && p e.id) s) refl
    where
      go : (b : Bool) → some_entry (λ e. not (eqb e.id u) && p e.id) s ≡ b → b ≡ true
      go true e = refl
      go false e = sym (some_none (λ y. not (eqb y u) && p y) s x e k) ∙ rw (ne_eqb x u n, h)

-- a refusal past another one's condition: that does not hold
module _ {A : Type 0} where
  past : (b : Bool) {n m : ℕ} {x : Answer A} → cond b (refused n) x ≡ refused m → (n ≡ m → ⊥) → (b ≡ false) × (x ≡ refused m)
  past true {n} {m} e d = let z : n ≡ m = cc in absurd (d z)
  past false e d = (refl, e)

  met_22 : (r s t w : Bool) (a : A) → cond r (refused 22) (cond s (refused 26) (cond t (refused 23) (cond w (refused 24) (answer a)))) ≡ refused 22 → r ≡ true
  met_22 true s t w a e = refl
  met_22 false s t w a e =
      let b = past s e (λ z. omega (arith, z)) in
      let c = past t b.1 (λ z. omega (arith, z)) in
      never_refused (sym (past w c.1 (λ z. omega (arith, z))).1)

  met_26 : (s t w : Bool) (a : A) → cond s (refused 26) (cond t (refused 23) (cond w (refused 24) (answer a))) ≡ refused 26 → s ≡ true
  met_26 true t w a e = refl
  met_26 false t w a e =
      let c = past t e (λ z. omega (arith, z)) in
      never_refused (sym (past w c.1 (λ z. omega (arith, z))).1)

module _ (groups : List Entry) (q : Request) where
  taken_reused : id_in_table groups q ≡ true → Reused groups q
  taken_reused h = let w = some_which q.exploded (λ y. has y groups) (entries q) h in (w.0, w.1, w.2, leb-true 1 (times w.0 groups) w.3)

  reused_taken : Reused groups q → id_in_table groups q ≡ true
  reused_taken w = which_some q.exploded (λ y. has y groups) (entries q) w.0 w.1 w.2 (le-leb 1 (times w.0 groups) w.3)

  none_reused : (Reused groups q → ⊥) → id_in_table groups q ≡ false
  none_reused h = go (id_in_table groups q) refl
    where
      go : (b : Bool) → id_in_table groups q ≡ b → b ≡ false
      go true e = absurd (h (taken_reused e))
      go false e = refl

  twice_repeated : id_twice q ≡ true → Repeated q
  twice_repeated h = let w = some_which q.exploded (λ y. leb 2 (times y (entries q))) (entries q) h in (w.0, w.1, leb-true 2 (times w.0 (entries q)) w.3)

  repeated_twice : Repeated q → id_twice q ≡ true
  repeated_twice w = let t = w.2 in which_some q.exploded (λ y. leb 2 (times y (entries q))) (entries q) w.0 w.1 (omega arith) (le-leb 2 (times w.0 (entries q)) t)

  named : id_unknown groups q ≡ false → not_one_entry q ≡ false → Named groups q
  named a b = (leb-true 1 (times q.exploded groups) (not-false _ a), eqb-true (times q.exploded (entries q)) 1 (not-false _ b))

  module _ (room : ℕ) where
    tells_22 : accepted room groups q ≡ refused 22 → Named groups q × Reused groups q
    unfolding accepted
    tells_22 h =
        let a = past (id_unknown groups q) h (λ z. omega (arith, z)) in
        let b = past (not_one_entry q) a.1 (λ z. omega (arith, z)) in
        (named a.0 b.0, taken_reused (met_22 (id_in_table groups q) (id_twice q) (quotas_wrong groups q) (rows_full room groups q) q b.1))

    tells_26 : accepted room groups q ≡ refused 26 → Named groups q × (Reused groups q → ⊥) × Repeated q
    unfolding accepted
    tells_26 h =
        let a = past (id_unknown groups q) h (λ z. omega (arith, z)) in
        let b = past (not_one_entry q) a.1 (λ z. omega (arith, z)) in
        let c = past (id_in_table groups q) b.1 (λ z. omega (arith, z)) in
        (named a.0 b.0, λ w. true≢false (sym (reused_taken w) ∙ c.0), twice_repeated (met_26 (id_twice q) (quotas_wrong groups q) (rows_full room groups q) q c.1))

    gives_22 : Named groups q × Reused groups q → accepted room groups q ≡ refused 22
    unfolding accepted
    gives_22 (n, w) = rw (le-leb 1 (times q.exploded groups) n.0, eq-eqb (times q.exploded (entries q)) 1 n.1, reused_taken w)

    gives_26 : Named groups q × (Reused groups q → ⊥) × Repeated q → accepted room groups q ≡ refused 26
    unfolding accepted
    gives_26 (n, f, w) =
        rw (le-leb 1 (times q.exploded groups) n.0, eq-eqb (times q.exploded (entries q)) 1 n.1, none_reused f, repeated_twice w)

    pub which_taken : WhichTaken room groups q
    which_taken = record { reused = (tells_22, gives_22); repeated = (tells_26, gives_26) }
