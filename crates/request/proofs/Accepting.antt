-- What an accepted request promises.
use mathlib.Core.Path.{◌≡◌, refl, ap, ap₂, ◌∙◌}
use mathlib.Core.Bool.{Bool, true, false, not, ◌&&◌, ◌||◌, true≢false, and-false}
use mathlib.Core.List.{List, [], ◌∷◌}
use mathlib.Core.Logic.{◌≢◌}
use Prim.Native.Nat.{ℕ, zero, suc, ◌+◌, ◌-◌, ◌≤◌}
use native.Mathlib.Omega.{arith}
use native.Mathlib.Decide.{ℕ_discrete}
use lib.Dec.{eqb, leb}
use lib.ListN.{length}
use borrow.Author.Tests.{eqb-true, eq-eqb, ne_eqb, leb-true, leb-false, le-leb, lt-leb, ltb-false, le-ltb, not-false}
use Rattle.rules.specs.Answers.{answer}
use Rattle.rules.proofs.Answers.{same_answer, peel}
use Rattle.rules.proofs.Bools.{or_none}
use Rattle.rules.proofs.Cases.{by_eq}
use Rattle.request.specs.Entries.{Entry, pick, one_at, quota_at, total, times, has, quota_of, some_entry, Same, Distinct}
use Rattle.request.specs.Request.{Request, entries}
use Rattle.request.specs.Acceptance.{id_unknown, not_one_entry, id_in_table, id_twice, quotas_wrong, rows_full, accepted}
use Rattle.request.proofs.Sums.{count_head, same_length}

pub record Accepted (room : ℕ) (groups : List Entry) (q : Request) : Type 0 where
  -- the exploded id is a group, and exactly one entry has it
  pub known : 1 ≤ times q.exploded groups
  pub once : times q.exploded (entries q) ≡ 1
  -- every other entry's id is no group, and no id comes twice
  pub new : (x : ℕ) → x ≢ q.exploded → 1 ≤ times x (entries q) → times x groups ≡ 0
  pub single : Distinct (entries q)
  pub whole : total (entries q) ≡ quota_of q.exploded groups
  pub fits : length groups + length (entries q) ≤ room + 1

-- a test of ids that holds of no entry
pub some_none : (p : ℕ → Bool) (s : List Entry) (x : ℕ) → some_entry (λ e. p e.id) s ≡ false → 1 ≤ times x s → p x ≡ false
unfolding some_entry
some_none p [] x h k = absurd (omega arith)
some_none p (e ∷ s) x h k = let b = or_none (p e.id) _ h in go (some_none p s x b.1) b.0 (eqb x e.id) refl k
  where
    go : (1 ≤ times x s → p x ≡ false) → p e.id ≡ false → (c : Bool) → eqb x e.id ≡ c → 1 ≤ pick c 1 0 + times x s → p x ≡ false
    go ih a true c k = ap p (eqb-true x e.id c) ∙ a
    go ih a false c k = ih (omega arith)

none_of : (a b : Bool) → (not a && b) ≡ false → a ≡ false → b ≡ false
none_of true b h k = absurd (true≢false k)
none_of false b h k = h

-- a test that holds of no entry but the exploded one
module _ (q : Request) (p : ℕ → Bool) (h : some_entry (λ e. not (eqb e.id q.exploded) && p e.id) (entries q) ≡ false) where
  other : (x : ℕ) → x ≢ q.exploded → 1 ≤ times x (entries q) → p x ≡ false
  other x n k = none_of _ (p x) (some_none (λ y. not (eqb y q.exploded) && p y) (entries q) x h k) (ne_eqb x q.exploded n)

single : (q : Request) → id_twice q ≡ false → times q.exploded (entries q) ≡ 1 → Distinct (entries q)
single q h k x = go (ℕ_discrete x q.exploded) (times x (entries q)) refl
  where
    go : Dec (x ≡ q.exploded) → (n : ℕ) → times x (entries q) ≡ n → times x (entries q) ≤ 1
    go (yes e) n c = rw e (omega arith)
    go (no e) zero c = omega arith
    go (no e) (suc n) c = omega (arith, leb-false 2 (times x (entries q)) (other q (λ y. leb 2 (times y (entries q))) h x e (omega arith)))

pub request_accepted : (room : ℕ) (groups : List Entry) (q : Request) {q' : Request} → accepted room groups q ≡ answer q'
    → Accepted room groups q × (q ≡ q')
unfolding accepted
request_accepted room groups q h =
    let a = peel (id_unknown groups q) _ _ h in
    let b = peel (not_one_entry q) _ _ a.1 in
    let c = peel (id_in_table groups q) _ _ b.1 in
    let t = peel (id_twice q) _ _ c.1 in
    let d = peel (quotas_wrong groups q) _ _ t.1 in
    let e = peel (rows_full room groups q) _ _ d.1 in
    let once = eqb-true (times q.exploded (entries q)) 1 (not-false _ b.0) in
    let fits = ltb-false room (length groups + length (entries q) - 1) e.0 in (
      record {
        known = leb-true 1 (times q.exploded groups) (not-false _ a.0);
        once = once;
        new = λ x n k. omega (arith, leb-false 1 (times x groups) (other q (λ y. has y groups) c.0 x n k));
        single = single q t.0 once;
        whole = eqb-true (total (entries q)) (quota_of q.exploded groups) (not-false _ d.0);
        fits = omega arith;
      },
      same_answer e.1,
    )

-- ## When a request is accepted

-- a test of ids that fails at each entry
none_some : (p : ℕ → Bool) (s : List Entry) → ((x : ℕ) → 1 ≤ times x s → p x ≡ false) → some_entry (λ e. p e.id) s ≡ false
unfolding some_entry
none_some p [] h = refl
none_some p (e ∷ s) h = rw (h e.id (count_head e.id s)) (none_some p s (λ x k. h x (omega arith)))

-- one that fails at each entry but the exploded one
none_other : (q : Request) (p : ℕ → Bool) → ((x : ℕ) → x ≢ q.exploded → 1 ≤ times x (entries q) → p x ≡ false)
    → some_entry (λ e. not (eqb e.id q.exploded) && p e.id) (entries q) ≡ false
none_other q p h =
    none_some (λ y. not (eqb y q.exploded) && p y) (entries q)
    (λ x k. by_eq x q.exploded (λ e. rw (eq-eqb x q.exploded e)) (λ n. rw (h x n k) (and-false (not (eqb x q.exploded)))))

-- what an accepted request promises is all that acceptance asks
pub accept : (room : ℕ) (groups : List Entry) (q : Request) → Accepted room groups q → accepted room groups q ≡ answer q
unfolding accepted
accept room groups q a =
    let i : id_in_table groups q ≡ false = none_other q (λ y. has y groups) (λ x n k. lt-leb 1 (times x groups) (omega (arith, a.new x n k))) in
    let t : id_twice q ≡ false = none_other q (λ y. leb 2 (times y (entries q))) (λ x n k. lt-leb 2 (times x (entries q)) (omega (arith, a.single x))) in
    let w : total (entries q) ≡ quota_of q.exploded groups = a.whole in
    let f : length groups + length (entries q) - 1 ≤ room = omega (arith, a.fits) in
    rw (le-leb 1 (times q.exploded groups) a.known, eq-eqb (times q.exploded (entries q)) 1 a.once, i, t, eq-eqb _ _ w, le-ltb room (length groups + length (entries q) - 1) f)

-- ## Acceptance depends on what the groups are, and not on their places

some_alike : (p r : Entry → Bool) (s : List Entry) → ((e : Entry) → p e ≡ r e) → some_entry p s ≡ some_entry r s
unfolding some_entry
some_alike p r [] h = refl
some_alike p r (e ∷ s) h = ap₂ (λ a b. a || b) (h e) (some_alike p r s h)

pub accepted_alike : (room : ℕ) (s t : List Entry) (q : Request) → Same s t → accepted room s q ≡ accepted room t q
unfolding accepted
accepted_alike room s t q h =
    let k : id_in_table s q ≡ id_in_table t q = some_alike _ _ (entries q) (λ e. rw (h (one_at e.id))) in
    rw (k, h (one_at q.exploded), h (quota_at q.exploded), same_length s t h)
