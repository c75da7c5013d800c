-- An accepted request keeps table and ledger in agreement.
use mathlib.Core.Path.{◌≡◌, refl, ap, sym, ◌∙◌}
use mathlib.Core.List.{List, ◌++◌}
use mathlib.Core.Logic.{◌≢◌, ◌⊎◌, inl, inr}
use Prim.Native.Nat.{ℕ, zero, suc, ◌+◌, ◌≤◌}
use native.Mathlib.Omega.{arith}
use Rattle.request.specs.Entries.{Entry, quota, one_at, quota_at, total, times, quota_of, before, Same, without}
use Rattle.request.specs.Request.{Request, entries, left_of, right_of}
use Rattle.request.proofs.Sums.{sum_append}
use Rattle.request.proofs.Trees.{same_left, same_right}
use Rattle.table.specs.declared.Row.{Row}
use Rattle.refine.specs.Refine.{groups_of, refine_rows}
use Rattle.table.specs.Columns.{l_of, r_of}
use Rattle.promises.specs.Theorems.{IsEntry, OtherIn, subgroup_in}
use Rattle.promises.proofs.Without.{but, sum_without, count_without}
use Rattle.promises.proofs.After.{entry_or_other}
use Rattle.promises.proofs.Cutting.{Refining, refines}
use Rattle.promises.proofs.Refinement.{promised, by_rows}
use Rattle.ledger.specs.Ledger.{Ledger, replace, order_after, exploded_ledger}
use Rattle.ledger.proofs.Agree.{Agree, by_numbers}
use Rattle.ledger.proofs.Orders.{Asked, Other, entries_after_lem, entry_other, other_entry, others_after, left_unknown, right_unknown}
use Rattle.ledger.proofs.Replaced.{sum_replace, before_other, before_new}

-- one of the two sequences: s of the ledger, new of the request
record Side (u : ℕ) (gs es s new : List Entry) : Type 0 where
  holds : Same (replace u new s) (without u gs ++ es)
  old : (x : ℕ) → x ≢ u → times x es ≡ 0 → before x (replace u new s) ≡ before x s
  added : (x : ℕ) → 1 ≤ times x es → before x (replace u new s) ≡ before u s + before x new

side : (u : ℕ) (gs es : List Entry) → times u gs ≡ 1 → ((x : ℕ) → x ≢ u → 1 ≤ times x es → times x gs ≡ 0) → total es ≡ quota_of u gs
    → (s new : List Entry) → Same s gs → Same new es → Side u gs es s new
side u gs es hu fresh whole s new in_s in_new = record {
  holds = λ f. omega (arith, sum_replace f u new s us, in_s (but u f), in_new f, sum_without f u gs, sum_append f (without u gs) es);
  old = λ x n h. before_other x u new s n (in_new (one_at x) ∙ h) us (in_new quota ∙ whole ∙ sym (in_s (quota_at u)));
  added = λ x h. before_new x u new s (λ n. in_s (one_at x) ∙ fresh x n h) (omega (arith, in_new (one_at x))) us;
}
  where
    us : times u s ≡ 1
    us = in_s (one_at u) ∙ hu

module _ {room : ℕ} {q : Request} {t : List Row} (g : Ledger) (a : Agree t g) (h : Refining room q t) where
  abbrev u : ℕ
  u = q.exploded

  abbrev after : List Entry
  after = without u g.groups ++ entries q

  known : times u g.groups ≡ 1
  known = omega (arith, (refines h).known, a.table (one_at u))

  new : (x : ℕ) → x ≢ u → IsEntry q x → times x g.groups ≡ 0
  new x n k = omega (arith, h.ok.new x n k, a.table (one_at x))

  whole : total (entries q) ≡ quota_of u g.groups
  whole = h.ok.whole ∙ a.table (quota_at u)

  left : Side u g.groups (entries q) g.left (left_of q)
  left = side u g.groups (entries q) known new whole g.left (left_of q) a.lefts (same_left q.direction q.trees)

  right : Side u g.groups (entries q) g.right (right_of q)
  right = side u g.groups (entries q) known new whole g.right (right_of q) a.rights (same_right q.direction q.trees)

  asked : Asked q g
  asked = record { once = h.ok.once; new = new; below_known = a.below_known; above_known = a.above_known }

  in_table : Same (groups_of (refine_rows q t)) after
  in_table f =
      omega (
        arith,
        (promised h).refined_groups f,
        sum_append f (without u (groups_of t)) (entries q),
        sum_append f (without u g.groups) (entries q),
        sum_without f u (groups_of t),
        sum_without f u g.groups,
        a.table (but u f),
      )

  -- a group after the request is an entry, or an old group other than u
  split : (x : ℕ) → 1 ≤ times x after → IsEntry q x ⊎ OtherIn q t x
  split x k = entry_or_other (refines h) x (omega (arith, in_table (one_at x)))

  was : (x : ℕ) → OtherIn q t x → 1 ≤ times x g.groups
  was x o = omega (arith, a.table (one_at x), o.1)

  other : (x : ℕ) → OtherIn q t x → Other q g x
  other x o = record { differs = o.0; known = was x o; no_entry = go (times x (entries q)) refl }
    where
      go : (n : ℕ) → times x (entries q) ≡ n → times x (entries q) ≡ 0
      go zero e = e
      go (suc n) e = absurd (omega (arith, new x o.0 (omega arith), was x o))

  numbers_after : (x : ℕ) → 1 ≤ times x after
      → (l_of x (refine_rows q t) ≡ 1 + before x (replace u (left_of q) g.left)) × (r_of x (refine_rows q t) ≡ 1 + before x (replace u (right_of q) g.right))
  numbers_after x k = go (split x k)
    where
      go : IsEntry q x ⊎ OtherIn q t x
          → (l_of x (refine_rows q t) ≡ 1 + before x (replace u (left_of q) g.left)) × (r_of x (refine_rows q t) ≡ 1 + before x (replace u (right_of q) g.right))
      go (inl e) =
          let n = a.numbers u (omega (arith, known)) in
          let m = (promised h).entry_numbers x e in
          (omega (arith, m.0, n.0, left.added x e), omega (arith, m.1, n.1, right.added x e))
      go (inr o) =
          let n = a.numbers x (was x o) in
          let m = (promised h).kept x o in
          let z = (other x o).no_entry in
          (omega (arith, m.0, n.0, left.old x o.0 z), omega (arith, m.1, n.1, right.old x o.0 z))

  ordered_after : (x y : ℕ) → 1 ≤ times x after → 1 ≤ times y after → order_after q g x y ≡ subgroup_in (refine_rows q t) x y
  ordered_after x y kx ky = go (split x kx) (split y ky)
    where
      go : IsEntry q x ⊎ OtherIn q t x → IsEntry q y ⊎ OtherIn q t y → order_after q g x y ≡ subgroup_in (refine_rows q t) x y
      go (inl e) (inl f) = entries_after_lem asked x y e f ∙ sym ((promised h).entries_order x y e f)
      go (inl e) (inr o) =
          entry_other asked x y e (other y o) ∙ by_numbers a u y (omega (arith, known)) (was y o) ∙ sym ((promised h).entry_below y x o e)
      go (inr o) (inl e) =
          other_entry asked x y (other x o) e ∙ by_numbers a x u (was x o) (omega (arith, known)) ∙ sym ((promised h).entry_above x y o e)
      go (inr o) (inr p) =
          others_after asked x y (other x o) (other y p) ∙ by_numbers a x y (was x o) (was y p) ∙ sym ((promised h).others_order x y o p)

  -- an id that is no group after the request was none before it, and is no entry
  neither : (x : ℕ) → times x after ≡ 0 → (times x g.groups ≡ 0) × (times x (entries q) ≡ 0)
  neither x k =
      let s = sum_append (one_at x) (without u g.groups) (entries q) in
      let n : x ≢ u = λ e. omega (arith, h.ok.once, ap (λ y. times y (entries q)) e) in
      (omega (arith, count_without x u g.groups n), omega arith)

  pub agree_after : Agree (refine_rows q t) (exploded_ledger q g)
  unfolding exploded_ledger
  agree_after = record {
    sound = (promised h).refined_sound;
    table = in_table;
    lefts = left.holds;
    rights = right.holds;
    numbers = numbers_after;
    ordered = λ x y j k. ordered_after x y j k ∙ by_rows (refine_rows q t) x y;
    below_known = λ x y k. let n = neither x k in left_unknown asked x y n.0 n.1;
    above_known = λ x y k. let n = neither y k in right_unknown asked x y n.0 n.1;
  }

  -- a group that is not exploded stays, with its numbers
  pub unmoved : (x : ℕ) → x ≢ u → 1 ≤ times x g.groups
      → (1 ≤ times x (exploded_ledger q g).groups) × (l_of x (refine_rows q t) ≡ l_of x t) × (r_of x (refine_rows q t) ≡ r_of x t)
  unfolding exploded_ledger
  unmoved x n k =
      let o : OtherIn q t x = (n, omega (arith, a.table (one_at x))) in
      let m = (promised h).kept x o in
      let s = sum_append (one_at x) (without u g.groups) (entries q) in
      (omega (arith, count_without x u g.groups n), m.0, m.1)
