-- The rows after a request: the row of each group, and their groups.
use mathlib.Core.Path.{◌≡◌, refl, ap, ap₂, sym, ◌∙◌}
use mathlib.Core.Bool.{Bool, true, false, cond}
use mathlib.Core.List.{List, [], ◌∷◌, ◌++◌, map, map-append}
use mathlib.Core.Logic.{◌≢◌, ◌⊎◌, inl, inr}
use Prim.Native.Nat.{ℕ, zero, suc, ◌+◌, ◌-◌, ◌≤◌}
use native.Mathlib.Omega.{arith}
use native.Mathlib.Nat.{zero-add}
use lib.Dec.{eqb}
use lib.ListN.{length}
use borrow.Author.Tests.{eqb-true, ne_eqb}
use Rattle.rules.proofs.Cases.{by_eq}
use Rattle.request.specs.Entries.{Entry, entry, entry_of, pick, one_at, sum, times, quota_of, Same, Distinct, without}
use Rattle.request.specs.Request.{Request, entries}
use Rattle.request.proofs.Sums.{sum_append, eqb_same, quota_none, length_sum}
use Rattle.table.specs.declared.Row.{Row}
use Rattle.refine.specs.Refine.{group_of, groups_of, row_in, row_for, kept_rows, new_rows, refine_rows}
use Rattle.promises.specs.Theorems.{OtherIn}
use Rattle.refine.proofs.Lookup.{groups_length}
use Rattle.promises.proofs.Rows.{row_left, row_right}
use Rattle.promises.proofs.Without.{but, sum_without, sum_split, count_but, count_without, quota_without}

-- the rows of entries
entry_rows : (q : Request) (v : Row) (s : List Entry) (x : ℕ) → times x s ≡ 1 → row_in x (map (row_for q v) s) ≡ row_for q v (entry_of x s)
entry_rows q v [] x h = absurd (omega arith)
entry_rows q v (e ∷ s) x h =
    (elim (eqb x e.id) as (λ b. eqb x e.id ≡ b → pick b 1 0 + times x s ≡ 1
    → cond b (row_for q v e) (row_in x (map (row_for q v) s)) ≡ row_for q v (entry x (pick b e.quota 0 + quota_of x s))) [
      | true ↦ λ p h.
          let z : quota_of x s ≡ 0 = quota_none x s (omega arith) in
          let y : e.quota ≡ e.quota + quota_of x s = omega arith in
          ap₂ (λ i k. row_for q v (entry i k)) (sym (eqb-true x e.id p)) y
      | false ↦ λ p h. entry_rows q v s x (omega arith) ∙ ap (λ k. row_for q v (entry x k)) (sym (zero-add (quota_of x s)))
    ]) refl h

entry_groups : (f : Entry → ℕ) (q : Request) (v : Row) (s : List Entry) → sum f (groups_of (map (row_for q v) s)) ≡ sum f s
entry_groups f q v [] = refl
entry_groups f q v (e ∷ s) = omega (arith, entry_groups f q v s)

groups_append : (f : Entry → ℕ) (s t : List Row) → sum f (groups_of (s ++ t)) ≡ sum f (groups_of s) + sum f (groups_of t)
groups_append f s t = ap (sum f) (map-append _ s t) ∙ sum_append f (groups_of s) (groups_of t)

module _ (q : Request) where
  abbrev u : ℕ
  u = q.exploded

  abbrev own : Row → Row
  own w = row_for q w (entry_of u (entries q))

  -- the exploded id's row, and the rows of others
  kept_own : (t : List Row) → 1 ≤ times u (groups_of t) → row_in u (kept_rows q t) ≡ own (row_in u t)
  kept_own [] h = absurd (omega arith)
  kept_own (w ∷ t) h = go (eqb u w.id) refl h (kept_own t)
    where
      go : (b : Bool) → eqb u w.id ≡ b → 1 ≤ pick b 1 0 + times u (groups_of t) → (1 ≤ times u (groups_of t) → row_in u (kept_rows q t) ≡ own (row_in u t))
          → cond (eqb u (cond b (own w) w).id) (cond b (own w) w) (row_in u (kept_rows q t)) ≡ own (cond b w (row_in u t))
      go true e h ih = rw (eqb_same u)
      go false e h ih = rw e (ih (omega arith))

  kept_other : (t : List Row) (x : ℕ) → x ≢ u → row_in x (kept_rows q t) ≡ row_in x t
  kept_other [] x n = refl
  kept_other (w ∷ t) x n = go (eqb u w.id) refl (kept_other t x n)
    where
      go : (b : Bool) → eqb u w.id ≡ b → row_in x (kept_rows q t) ≡ row_in x t
          → cond (eqb x (cond b (own w) w).id) (cond b (own w) w) (row_in x (kept_rows q t)) ≡ cond (eqb x w.id) w (row_in x t)
      go true e ih = rw (ne_eqb x u n, ne_eqb x w.id (λ k. n (k ∙ sym (eqb-true u w.id e)))) ih
      go false e ih = ap (λ v. cond (eqb x w.id) w v) ih

  kept_none : (f : Entry → ℕ) (t : List Row) → times u (groups_of t) ≡ 0 → sum f (groups_of (kept_rows q t)) ≡ sum (but u f) (groups_of t)
  kept_none f [] h = refl
  kept_none f (w ∷ t) h = go (eqb u w.id) h (kept_none f t)
    where
      go : (b : Bool) → pick b 1 0 + times u (groups_of t) ≡ 0 → (times u (groups_of t) ≡ 0 → sum f (groups_of (kept_rows q t)) ≡ sum (but u f) (groups_of t))
          → sum f (groups_of (cond b (own w) w ∷ kept_rows q t)) ≡ pick b 0 (f (group_of w)) + sum (but u f) (groups_of t)
      go true h ih = absurd (omega arith)
      go false h ih = omega (arith, ih (omega arith))

  kept_groups : (f : Entry → ℕ) (t : List Row) → times u (groups_of t) ≡ 1
      → sum f (groups_of (kept_rows q t)) ≡ f (entry_of u (entries q)) + sum (but u f) (groups_of t)
  kept_groups f [] h = absurd (omega arith)
  kept_groups f (w ∷ t) h = go (eqb u w.id) h (kept_groups f t) (kept_none f t)
    where
      go : (b : Bool) → pick b 1 0 + times u (groups_of t) ≡ 1
          → (times u (groups_of t) ≡ 1 → sum f (groups_of (kept_rows q t)) ≡ f (entry_of u (entries q)) + sum (but u f) (groups_of t))
          → (times u (groups_of t) ≡ 0 → sum f (groups_of (kept_rows q t)) ≡ sum (but u f) (groups_of t))
          → sum f (groups_of (cond b (own w) w ∷ kept_rows q t)) ≡ f (entry_of u (entries q)) + (pick b 0 (f (group_of w)) + sum (but u f) (groups_of t))
      go true h ih none = omega (arith, none (omega arith))
      go false h ih none = omega (arith, ih (omega arith))

-- rows without an id twice, and a request whose ids are new but for the exploded one
pub record Refines (q : Request) (t : List Row) : Type 0 where
  pub distinct : Distinct (groups_of t)
  pub known : times q.exploded (groups_of t) ≡ 1
  pub once : times q.exploded (entries q) ≡ 1
  pub single : Distinct (entries q)
  pub new : (x : ℕ) → x ≢ q.exploded → 1 ≤ times x (entries q) → times x (groups_of t) ≡ 0

module _ {q : Request} {t : List Row} (h : Refines q t) where
  -- the sums over the groups after
  sums_after : (f : Entry → ℕ) → sum f (groups_of (refine_rows q t)) ≡ sum (but q.exploded f) (groups_of t) + sum f (entries q)
  unfolding refine_rows
  sums_after f = omega (
    arith,
    groups_append f (kept_rows q t) (new_rows q t),
    kept_groups q f t h.known,
    entry_groups f q (row_in q.exploded t) (without q.exploded (entries q)),
    sum_without f q.exploded (entries q),
    sum_split f q.exploded (entries q) h.once,
  )

  pub groups_after : Same (groups_of (refine_rows q t)) (without q.exploded (groups_of t) ++ entries q)
  groups_after f = omega (arith, sums_after f, sum_without f q.exploded (groups_of t), sum_append f (without q.exploded (groups_of t)) (entries q))

  -- one row goes, and those of the entries come
  pub length_after : length (refine_rows q t) ≡ length t + length (entries q) - 1
  length_after = omega (
    arith,
    sums_after (λ e. 1),
    sum_split (λ e. 1) q.exploded (groups_of t) h.known,
    sum_split (λ e. 1) q.exploded (entries q) h.once,
    length_sum (groups_of (refine_rows q t)),
    length_sum (groups_of t),
    length_sum (entries q),
    groups_length t,
    groups_length (refine_rows q t),
  )

  pub count_other : (x : ℕ) → x ≢ q.exploded → times x (groups_of (refine_rows q t)) ≡ times x (groups_of t) + times x (entries q)
  count_other x n = omega (arith, sums_after (one_at x), count_but x q.exploded (groups_of t) n)

  pub count_exploded : times q.exploded (groups_of (refine_rows q t)) ≡ 1
  count_exploded =
      let k : pick (eqb q.exploded q.exploded) 1 0 ≡ 1 = rw (eqb_same q.exploded) in
      omega (arith, sums_after (one_at q.exploded), sum_split (one_at q.exploded) q.exploded (groups_of t) h.known, h.known, h.once)

  -- a group that is not exploded keeps its row
  kept_count : (x : ℕ) → x ≢ q.exploded → times x (groups_of (kept_rows q t)) ≡ times x (groups_of t)
  kept_count x n =
      let k : pick (eqb x q.exploded) 1 0 ≡ 0 = rw (ne_eqb x q.exploded n) in
      omega (arith, kept_groups q (one_at x) t h.known, count_but x q.exploded (groups_of t) n)

  pub kept_row_lem : (x : ℕ) → x ≢ q.exploded → 1 ≤ times x (groups_of t) → row_in x (refine_rows q t) ≡ row_in x t
  unfolding refine_rows
  kept_row_lem x n k = row_left x (kept_rows q t) (new_rows q t) (omega (arith, kept_count x n)) ∙ kept_other q t x n

  -- an entry has the row that the exploded group's numbers give it
  exploded_row : row_in q.exploded (refine_rows q t)
      ≡ row_for q (row_in q.exploded t) (entry_of q.exploded (entries q))
  unfolding refine_rows
  exploded_row =
      let k : pick (eqb q.exploded q.exploded) 1 0 ≡ 1 = rw (eqb_same q.exploded) in
      row_left q.exploded (kept_rows q t) (new_rows q t) (omega (arith, kept_groups q (one_at q.exploded) t h.known))
      ∙ kept_own q t (omega (arith, h.known))

  new_row : (x : ℕ) → x ≢ q.exploded → 1 ≤ times x (entries q)
      → row_in x (refine_rows q t) ≡ row_for q (row_in q.exploded t) (entry_of x (entries q))
  unfolding refine_rows
  new_row x n k =
      row_right x (kept_rows q t) (new_rows q t) (kept_count x n ∙ h.new x n k)
      ∙ entry_rows q (row_in q.exploded t) (without q.exploded (entries q)) x
      (omega (arith, count_without x q.exploded (entries q) n, h.single x))
      ∙ rw (quota_without x q.exploded (entries q) n)

  pub entry_row : (x : ℕ) → 1 ≤ times x (entries q)
      → row_in x (refine_rows q t) ≡ row_for q (row_in q.exploded t) (entry_of x (entries q))
  entry_row x k = by_eq x q.exploded (λ e. rw e exploded_row) (λ n. new_row x n k)

  -- no id comes twice
  pub distinct_after : Distinct (groups_of (refine_rows q t))
  distinct_after x = by_eq x q.exploded (λ e. rw e (omega (arith, count_exploded))) (λ n. go n (times x (entries q)) refl)
    where
      go : x ≢ q.exploded → (n : ℕ) → times x (entries q) ≡ n → times x (groups_of (refine_rows q t)) ≤ 1
      go n zero k = omega (arith, count_other x n, h.distinct x)
      go n (suc m) k = omega (arith, count_other x n, h.new x n (omega arith), h.single x)

  -- a group after is an entry, or a group before that is not exploded
  pub entry_or_other : (x : ℕ) → 1 ≤ times x (groups_of (refine_rows q t)) → (1 ≤ times x (entries q)) ⊎ OtherIn q t x
  entry_or_other x k = by_eq x q.exploded (λ e. inl (rw e (omega (arith, h.once)))) (λ n. go n (times x (entries q)) refl)
    where
      go : x ≢ q.exploded → (n : ℕ) → times x (entries q) ≡ n → (1 ≤ times x (entries q)) ⊎ OtherIn q t x
      go n zero z = inr (n, omega (arith, count_other x n))
      go n (suc m) z = inl (omega arith)

  pub entry_after : (x : ℕ) → 1 ≤ times x (entries q) → 1 ≤ times x (groups_of (refine_rows q t))
  entry_after x k = omega (arith, groups_after (one_at x), sum_append (one_at x) (without q.exploded (groups_of t)) (entries q))
