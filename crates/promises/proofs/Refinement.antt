-- What an accepted request promises of the rows after it.
use mathlib.Core.Path.{◌≡◌, ap, sym, ◌∙◌}
use mathlib.Core.Bool.{true}
use mathlib.Core.List.{List}
use mathlib.Core.Logic.{inl, inr, ◌↔◌}
use Prim.Native.Nat.{ℕ, ◌+◌, ◌≤◌}
use native.Mathlib.Omega.{arith}
use lib.ListN.{length}
use borrow.Author.Tests.{le-leb}
use Rattle.rules.specs.Answers.{answer}
use Rattle.rules.proofs.Answers.{same_answer, then_answer}
use Rattle.coordinates.specs.Coordinates.{within}
use Rattle.boxes.specs.Boxes.{box_of, contains, disjoint}
use Rattle.request.specs.Entries.{times, quota_of, before, Positive}
use Rattle.request.specs.Forest.{Forest, Direction, pre_l, left, right, tree_order}
use Rattle.request.specs.Request.{Request, entries, left_of, right_of}
use Rattle.request.specs.Reading.{request_of}
use Rattle.request.specs.Acceptance.{accepted}
use Rattle.rules.proofs.Ranges.{Clear}
use Rattle.coordinates.proofs.Ranges.{clear_apart}
use Rattle.request.proofs.Sums.{no_later, later_iff, sum_at, own_quotas}
use Rattle.request.proofs.Trees
use Rattle.request.proofs.ReadLaws.{request_read}
use Rattle.request.proofs.Accepting.{request_accepted}
use Rattle.table.specs.declared.Row.{Row}
use Rattle.table.specs.Columns.{Columns, rows, l_of, r_of}
use Rattle.table.specs.Check.{sound_rows, checked}
use Rattle.table.proofs.Passing.{rows_good, check_passed}
use Rattle.order.specs.Order.{subgroup}
use Rattle.refine.specs.Refine.{groups_of, row_in, refine_rows, exploded_rows, refined}
use Rattle.promises.specs.Theorems.{IsEntry, OtherIn, q_of, subgroup_in, Divided, Promises}
use Rattle.refine.proofs.Lookup.{l_row, r_row, quota_row, groups_length}
use Rattle.promises.proofs.Soundness.{Parted, sound_ids, ids_sound}
use Rattle.promises.proofs.After.{entry_row, distinct_after, groups_after, length_after, entry_after}
use Rattle.promises.proofs.Cutting.{Refining, refines, Inside, entry_inside, entries_apart, entry_once, other_row, sound_after}

-- two comparisons that say the same
subgroup_iff : (l r k s l' r' k' s' : ℕ) → l ≤ k ↔ l' ≤ k' → r ≤ s ↔ r' ≤ s' → subgroup l r k s ≡ subgroup l' r' k' s'
unfolding subgroup no_later
subgroup_iff l r k s l' r' k' s' f g = later_iff l r k s l' r' k' s' f g

-- Theorem 1 of the paper
pub tree_order_lem : (d : Direction) (t : Forest) (x y : ℕ) → Positive (pre_l t) → times x (pre_l t) ≡ 1 → times y (pre_l t) ≡ 1
    → tree_order d t x y ≡ subgroup (before x (left d t)) (before x (right d t)) (before y (left d t)) (before y (right d t))
unfolding subgroup
tree_order_lem d t x y pos hx hy = Trees.tree_order_lem d t x y pos hx hy

-- a number c in a range compares with a range apart from it as the range does
in_below : (a q b p c k : ℕ) → a ≤ c → c + k ≤ a + q → 1 ≤ p → Clear a q b p → c ≤ b ↔ a ≤ b
in_below a q b p c k h j m (inl n) = omega arith
in_below a q b p c k h j m (inr n) = omega arith

in_above : (a q b p c k : ℕ) → a ≤ c → c + k ≤ a + q → 1 ≤ k → 1 ≤ p → Clear a q b p → b ≤ c ↔ b ≤ a
in_above a q b p c k h j i m (inl n) = omega arith
in_above a q b p c k h j i m (inr n) = omega arith

-- the order of two groups, by their rows
pub by_rows : (t : List Row) (x y : ℕ) → subgroup_in t x y ≡ subgroup (row_in x t).l (row_in x t).r (row_in y t).l (row_in y t).r
by_rows t x y = rw (l_row x t, r_row x t, l_row y t, r_row y t)

inside_contains : (v w : Row) → Inside v w → contains (box_of v.l v.r v.q) (box_of w.l w.r w.q) ≡ true
unfolding contains within
inside_contains v w i = rw (le-leb _ _ i.l_low, le-leb _ _ i.l_high, le-leb _ _ i.r_low, le-leb _ _ i.r_high)

parted_disjoint : (w v : Row) → 1 ≤ w.q → 1 ≤ v.q → Parted w v → disjoint (box_of w.l w.r w.q) (box_of v.l v.r v.q) ≡ true
unfolding disjoint
parted_disjoint w v h k p = rw (clear_apart _ _ _ _ h k p.in_l, clear_apart _ _ _ _ h k p.in_r)

module _ {room : ℕ} {q : Request} {t : List Row} (h : Refining room q t) where
  entry_some : (x : ℕ) → IsEntry q x → 1 ≤ (row_in x (refine_rows q t)).q
  entry_some x k = ((sound_after h).row x (entry_after (refines h) x k)).q_some

  kept : (x : ℕ) → OtherIn q t x → (l_of x (refine_rows q t) ≡ l_of x t) × (r_of x (refine_rows q t) ≡ r_of x t) × (q_of x (refine_rows q t) ≡ q_of x t)
  kept x o = (
    rw (l_row x (refine_rows q t), other_row h x o) (sym (l_row x t)),
    rw (r_row x (refine_rows q t), other_row h x o) (sym (r_row x t)),
    rw (quota_row x (refine_rows q t) (distinct_after (refines h) x), other_row h x o) (sym (quota_row x t (h.sound.distinct x))),
  )

  -- the size of an entry's box
  entry_size : (x : ℕ) → IsEntry q x → q_of x (refine_rows q t) ≡ quota_of x (entries q)
  entry_size x k = quota_row x (refine_rows q t) (distinct_after (refines h) x) ∙ rw (entry_row (refines h) x k)

  entry_numbers : (x : ℕ) → IsEntry q x
      → (l_of x (refine_rows q t) ≡ l_of q.exploded t + before x (left_of q)) × (r_of x (refine_rows q t) ≡ r_of q.exploded t + before x (right_of q))
      × (q_of x (refine_rows q t) ≡ quota_of x (entries q))
  entry_numbers x k =
      let e = entry_row (refines h) x k in
      (l_row x (refine_rows q t) ∙ rw (e, l_row q.exploded t), r_row x (refine_rows q t) ∙ rw (e, r_row q.exploded t), entry_size x k)

  pub box_divided : Divided q t (refine_rows q t)
  box_divided = record {
    inside = λ x k. inside_contains _ _ (entry_inside h x k);
    separate = λ x y n hx hy. parted_disjoint _ _ (entry_some x hx) (entry_some y hy) (entries_apart h x y n hx hy);
    sizes = sum_at (λ e. q_of e.id (refine_rows q t)) (λ e. quota_of e.id (entries q)) (entries q) (λ e k. entry_size e.id k)
        ∙ own_quotas (entries q) h.ok.single ∙ h.ok.whole;
  }

  -- Theorem 1: among the entries
  pub entries_order : (x y : ℕ) → IsEntry q x → IsEntry q y → subgroup_in (refine_rows q t) x y ≡ tree_order q.direction q.trees x y
  entries_order x y hx hy =
      by_rows (refine_rows q t) x y
      ∙ rw (entry_row (refines h) x hx, entry_row (refines h) y hy)
      (subgroup_iff _ _ _ _ (before x (left_of q)) (before x (right_of q)) (before y (left_of q)) (before y (right_of q)) (omega arith) (omega arith))
      ∙ sym (tree_order_lem q.direction q.trees x y h.read.positive (entry_once h x hx) (entry_once h y hy))

  -- Theorem 6: an entry and a group outside the box
  module _ (x e : ℕ) (o : OtherIn q t x) (k : IsEntry q e) where
    outside : Parted (row_in q.exploded t) (row_in x t)
    outside = h.sound.pair q.exploded x (λ e. o.0 (sym e)) h.ok.known o.1

    pub entry_below : subgroup_in (refine_rows q t) e x ≡ subgroup_in t q.exploded x
    entry_below =
        let i = entry_inside h e k in
        let p = outside in
        let m = (h.sound.row x o.1).q_some in
        by_rows (refine_rows q t) e x ∙ rw (other_row h x o)
        (subgroup_iff _ _ _ _ (row_in q.exploded t).l (row_in q.exploded t).r (row_in x t).l (row_in x t).r
        (in_below _ _ _ _ _ _ i.l_low i.l_high m p.in_l) (in_below _ _ _ _ _ _ i.r_low i.r_high m p.in_r))
        ∙ sym (by_rows t q.exploded x)

    pub entry_above : subgroup_in (refine_rows q t) x e ≡ subgroup_in t x q.exploded
    entry_above =
        let i = entry_inside h e k in
        let p = outside in
        let m = (h.sound.row x o.1).q_some in
        let n = entry_some e k in
        by_rows (refine_rows q t) x e ∙ rw (other_row h x o)
        (subgroup_iff _ _ _ _ (row_in x t).l (row_in x t).r (row_in q.exploded t).l (row_in q.exploded t).r
        (in_above _ _ _ _ _ _ i.l_low i.l_high n m p.in_l) (in_above _ _ _ _ _ _ i.r_low i.r_high n m p.in_r))
        ∙ sym (by_rows t x q.exploded)

  others_order : (x y : ℕ) → OtherIn q t x → OtherIn q t y → subgroup_in (refine_rows q t) x y ≡ subgroup_in t x y
  others_order x y o p = by_rows (refine_rows q t) x y ∙ rw (other_row h x o, other_row h y p) (sym (by_rows t x y))

  pub promised : Promises room q t (refine_rows q t)
  promised =
      let n = length_after (refines h) in
      let m : length (refine_rows q t) ≤ room = omega (arith, h.ok.fits, groups_length t) in
      record {
        refined_sound = ids_sound (refine_rows q t) (sound_after h);
        refined_length = n;
        refined_fits = m;
        refined_groups = groups_after (refines h);
        kept = kept;
        entry_numbers = entry_numbers;
        divided = box_divided;
        entries_order = entries_order;
        entry_below = entry_below;
        entry_above = entry_above;
        others_order = others_order;
      }

-- sound rows, a request that was read from bytes and is accepted: the promises hold of the rows after it
pub refining : (room : ℕ) (t : List Row) (bytes : List ℕ) (q : Request) → sound_rows t ≡ answer t → request_of bytes ≡ answer q
    → accepted room (groups_of t) q ≡ answer q → Refining room q t
refining room t bytes q s r a = record { sound = sound_ids t s; read = request_read bytes r; ok = (request_accepted room (groups_of t) q a).0 }

pub promises_of_rows : (room : ℕ) (t : List Row) (bytes : List ℕ) (q : Request) → sound_rows t ≡ answer t → request_of bytes ≡ answer q
    → accepted room (groups_of t) q ≡ answer q → Promises room q t (refine_rows q t)
promises_of_rows room t bytes q s r a = promised (refining room t bytes q s r a)

along : {room : ℕ} {q : Request} {t s t' s' : List Row} → t ≡ s → t' ≡ s' → Promises room q t t' → Promises room q s s'
along e f p = rw (← e, ← f) p

-- what refine finds on any columns and bytes: a request was read, and the promises hold of the rows before and after it
pub promises : (c : Columns) (count : ℕ) (bytes : List ℕ) {t' : List Row} → refined c count bytes ≡ answer t'
    → (q : Request) × (request_of bytes ≡ answer q) × Promises (length c.id) q (rows c count) t'
unfolding refined exploded_rows
promises c count bytes {t'} e =
    let checks = then_answer (checked c count) _ e in
    let reads = then_answer (request_of bytes) _ checks.2 in
    let accepts = then_answer (accepted (length c.id) (groups_of checks.0) reads.0) _ reads.2 in
    let p = check_passed c count checks.1 in
    let ok = accepts.1 ∙ ap answer (sym (request_accepted (length c.id) (groups_of checks.0) reads.0 accepts.1).1) in
    let sound : sound_rows checks.0 ≡ answer checks.0 = rw (← p.1) (rows_good (rows c count) p.0.good) in
    (reads.0, reads.1, along (sym p.1) (same_answer accepts.2) (promises_of_rows (length c.id) checks.0 bytes reads.0 sound reads.1 ok))
