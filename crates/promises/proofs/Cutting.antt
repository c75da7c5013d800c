-- The box of the exploded group is cut up into the boxes of the entries, and nothing outside it moves.
use mathlib.Core.Path.{◌≡◌, ap, sym, ◌∙◌}
use mathlib.Core.List.{List}
use mathlib.Core.Logic.{◌≢◌, ◌⊎◌, inl, inr}
use Prim.Native.Nat.{ℕ, ◌+◌, ◌≤◌}
use native.Mathlib.Omega.{arith}
use Rattle.request.specs.Entries.{Entry, one_at, quota_at, quota, total, times, quota_of, before, Same}
use Rattle.request.specs.Request.{Request, entries, left_of, right_of}
use Rattle.rules.proofs.Ranges.{Clear}
use Rattle.request.proofs.Sums.{before_within, positive_quota, apart}
use Rattle.request.proofs.Trees.{same_left, same_right}
use Rattle.request.proofs.ReadLaws.{ReadRequest}
use Rattle.request.proofs.Accepting.{Accepted}
use Rattle.table.specs.declared.Row.{Row}
use Rattle.table.specs.Columns.{low_l, low_r, size_of}
use Rattle.table.specs.Sound.{SoundRow}
use Rattle.refine.specs.Refine.{groups_of, refine_rows}
use Rattle.promises.specs.Theorems.{OtherIn}
use Rattle.refine.proofs.Lookup.{quota_row}
use Rattle.refine.specs.Refine.{row_in}
use Rattle.promises.proofs.Soundness.{Parted, parted_flip, SoundIds}
use Rattle.promises.proofs.After.{Refines, kept_row_lem, entry_row, distinct_after, entry_or_other}

-- sound rows, and a request that was read and is accepted
pub record Refining (room : ℕ) (q : Request) (t : List Row) : Type 0 where
  pub sound : SoundIds t
  pub read : ReadRequest q
  pub ok : Accepted room (groups_of t) q

pub refines : {room : ℕ} {q : Request} {t : List Row} → Refining room q t → Refines q t
refines {room} {q} {t} h = record {
  distinct = h.sound.distinct;
  known = omega (arith, h.sound.distinct q.exploded, h.ok.known);
  once = h.ok.once;
  single = h.ok.single;
  new = h.ok.new;
}

-- the second row's box lies in the first row's
pub record Inside (v w : Row) : Type 0 where
  pub l_low : low_l v ≤ low_l w
  pub l_high : low_l w + size_of w ≤ low_l v + size_of v
  pub r_low : low_r v ≤ low_r w
  pub r_high : low_r w + size_of w ≤ low_r v + size_of v

-- a part of a range that lies apart from another does so too
part_clear : (a q b p c k : ℕ) → a ≤ c → c + k ≤ a + q → Clear a q b p → Clear c k b p
part_clear a q b p c k h j (inl m) = inl (omega arith)
part_clear a q b p c k h j (inr m) = inr (omega arith)

inside_parted : (v w z : Row) → Inside v w → Parted v z → Parted w z
inside_parted v w z i p = record {
  in_l = part_clear (low_l v) (size_of v) (low_l z) (size_of z) (low_l w) (size_of w) i.l_low i.l_high p.in_l;
  in_r = part_clear (low_r v) (size_of v) (low_r z) (size_of z) (low_r w) (size_of w) i.r_low i.r_high p.in_r;
}

inside_sound : (v w : Row) → 1 ≤ w.id → 1 ≤ size_of w → Inside v w → SoundRow v → SoundRow w
inside_sound v w h k i s = record {
  id_some = h;
  l_some = omega (arith, i.l_low, s.l_some);
  r_some = omega (arith, i.r_low, s.r_some);
  q_some = k;
  l_end = omega (arith, i.l_high, s.l_end);
  r_end = omega (arith, i.r_high, s.r_end);
}

-- the range of an entry in a sequence of the entries
module _ (es s : List Entry) (same : Same s es) where
  range_within : (x : ℕ) → 1 ≤ times x es → before x s + quota_of x es ≤ total es
  range_within x k = omega (arith, before_within x s (omega (arith, same (one_at x))), same (quota_at x), same quota)

  ranges_apart : (x y base : ℕ) → x ≢ y → times x es ≡ 1 → times y es ≡ 1 → Clear (base + before x s) (quota_of x es) (base + before y s) (quota_of y es)
  ranges_apart x y base n hx hy = rw (← (same (quota_at x)), ← (same (quota_at y))) (go (apart x y s n (same (one_at x) ∙ hx) (same (one_at y) ∙ hy)))
    where
      go : Clear (before x s) (quota_of x s) (before y s) (quota_of y s) → Clear (base + before x s) (quota_of x s) (base + before y s) (quota_of y s)
      go (inl m) = inl (omega arith)
      go (inr m) = inr (omega arith)

module _ {room : ℕ} {q : Request} {t : List Row} (h : Refining room q t) where
  same_l : Same (left_of q) (entries q)
  same_l = same_left q.direction q.trees

  same_r : Same (right_of q) (entries q)
  same_r = same_right q.direction q.trees

  exploded_quota : total (entries q) ≡ size_of (row_in q.exploded t)
  exploded_quota = h.ok.whole ∙ quota_row q.exploded t (h.sound.distinct q.exploded)

  pub entry_once : (x : ℕ) → 1 ≤ times x (entries q) → times x (entries q) ≡ 1
  entry_once x k = omega (arith, h.ok.single x)

  entry_quota : (x : ℕ) → 1 ≤ times x (entries q) → 1 ≤ quota_of x (entries q)
  entry_quota x k = omega (arith, positive_quota x (entries q) h.read.positive)

  entry_id : (x : ℕ) → 1 ≤ times x (entries q) → 1 ≤ x
  entry_id x k = let n : x ≢ 0 = λ e. omega (arith, h.read.named, ap (λ y. times y (entries q)) e) in omega arith

  -- an entry's box lies in the exploded group's, and two entries' boxes lie apart
  pub entry_inside : (x : ℕ) → 1 ≤ times x (entries q) → Inside (row_in q.exploded t) (row_in x (refine_rows q t))
  entry_inside x k =
      let l = range_within (entries q) (left_of q) same_l x k in
      let r = range_within (entries q) (right_of q) same_r x k in
      rw (entry_row (refines h) x k)
      (record { l_low = omega arith; l_high = omega (arith, exploded_quota); r_low = omega arith; r_high = omega (arith, exploded_quota) })

  pub entries_apart : (x y : ℕ) → x ≢ y → 1 ≤ times x (entries q) → 1 ≤ times y (entries q) → Parted (row_in x (refine_rows q t)) (row_in y (refine_rows q t))
  entries_apart x y n hx hy =
      rw (entry_row (refines h) x hx, entry_row (refines h) y hy)
      (record {
        in_l = ranges_apart (entries q) (left_of q) same_l x y _ n (entry_once x hx) (entry_once y hy);
        in_r = ranges_apart (entries q) (right_of q) same_r x y _ n (entry_once x hx) (entry_once y hy);
      })

  entry_sound : (x : ℕ) → 1 ≤ times x (entries q) → SoundRow (row_in x (refine_rows q t))
  entry_sound x k =
      inside_sound (row_in q.exploded t) (row_in x (refine_rows q t))
      (rw (entry_row (refines h) x k) (entry_id x k)) (rw (entry_row (refines h) x k) (entry_quota x k))
      (entry_inside x k) (h.sound.row q.exploded h.ok.known)

  -- an entry's box and the box of another group
  pub entry_other : (x y : ℕ) → 1 ≤ times x (entries q) → OtherIn q t y → Parted (row_in x (refine_rows q t)) (row_in y t)
  entry_other x y k o =
      inside_parted (row_in q.exploded t) (row_in x (refine_rows q t)) (row_in y t) (entry_inside x k)
      (h.sound.pair q.exploded y (λ e. o.0 (sym e)) h.ok.known o.1)

  pub other_row : (x : ℕ) → OtherIn q t x → row_in x (refine_rows q t) ≡ row_in x t
  other_row x o = kept_row_lem (refines h) x o.0 o.1

  row_after : (x : ℕ) → (1 ≤ times x (entries q)) ⊎ OtherIn q t x → SoundRow (row_in x (refine_rows q t))
  row_after x (inl k) = entry_sound x k
  row_after x (inr o) = rw (other_row x o) (h.sound.row x o.1)

  pair_after : (x y : ℕ) → x ≢ y → (1 ≤ times x (entries q)) ⊎ OtherIn q t x → (1 ≤ times y (entries q)) ⊎ OtherIn q t y
      → Parted (row_in x (refine_rows q t)) (row_in y (refine_rows q t))
  pair_after x y n (inl k) (inl m) = entries_apart x y n k m
  pair_after x y n (inl k) (inr o) = rw (other_row y o) (entry_other x y k o)
  pair_after x y n (inr o) (inl k) = rw (other_row x o) (parted_flip (entry_other y x k o))
  pair_after x y n (inr o) (inr p) = rw (other_row x o, other_row y p) (h.sound.pair x y n o.1 p.1)

  -- the rows after are sound
  pub sound_after : SoundIds (refine_rows q t)
  sound_after = record {
    distinct = distinct_after (refines h);
    row = λ x k. row_after x (entry_or_other (refines h) x k);
    pair = λ x y n hx hy. pair_after x y n (entry_or_other (refines h) x hx) (entry_or_other (refines h) y hy);
  }
