-- Sound rows, as they are found by their ids.
use mathlib.Core.Path.{◌≡◌}
use mathlib.Core.Bool.{false, not}
use mathlib.Core.List.{List}
use mathlib.Core.Logic.{◌≢◌, ◌⊎◌, inl, inr}
use Prim.Native.Nat.{ℕ, ◌≤◌}
use borrow.Author.Tests.{not-false}
use Rattle.rules.specs.Answers.{answer}
use Rattle.rules.proofs.Bools.{or_none}
use Rattle.coordinates.specs.Coordinates.{apart}
use Rattle.rules.proofs.Ranges.{Clear}
use Rattle.coordinates.proofs.Ranges.{apart_clear, clear_apart}
use Rattle.request.specs.Entries.{times, Distinct}
use Rattle.table.specs.declared.Row.{Row}
use Rattle.table.specs.Columns.{low_l, low_r, size_of}
use Rattle.table.specs.Check.{value_bad, ranges_meet, sound_rows}
use Rattle.table.specs.Sound.{SoundRow}
use Rattle.table.proofs.Soundness.{value_sound, sound_value}
use Rattle.table.proofs.Passing.{Good, good_rows, rows_good}
use Rattle.refine.specs.Refine.{groups_of}
use Rattle.refine.proofs.Lookup.{ids_distinct}
use Rattle.promises.proofs.Rows.{none_to, none_from, pairs_to, pairs_from, distinct_ids}
use Rattle.refine.specs.Refine.{row_in}

-- the l ranges of two boxes lie apart, and so do their r ranges
pub record Parted (w v : Row) : Type 0 where
  pub in_l : Clear (low_l w) (size_of w) (low_l v) (size_of v)
  pub in_r : Clear (low_r w) (size_of w) (low_r v) (size_of v)

pub clear_flip : (a q b p : ℕ) → Clear a q b p → Clear b p a q
clear_flip a q b p (inl h) = inr h
clear_flip a q b p (inr h) = inl h

pub parted_flip : {w v : Row} → Parted w v → Parted v w
parted_flip p = record { in_l = clear_flip _ _ _ _ p.in_l; in_r = clear_flip _ _ _ _ p.in_r }

-- 13
ranges_parted : (w v : Row) → ranges_meet w v ≡ false → Parted w v
unfolding ranges_meet
ranges_parted w v h =
    let b = or_none (not (apart w.l w.q v.l v.q)) _ h in
    record { in_l = apart_clear _ _ _ _ (not-false _ b.0); in_r = apart_clear _ _ _ _ (not-false _ b.1) }

parted_ranges : (w v : Row) → 1 ≤ w.q → 1 ≤ v.q → Parted w v → ranges_meet w v ≡ false
unfolding ranges_meet
parted_ranges w v h k p = rw (clear_apart _ _ _ _ h k p.in_l, clear_apart _ _ _ _ h k p.in_r)

-- every group has a sound row, and two groups lie apart
pub record SoundIds (t : List Row) : Type 0 where
  pub distinct : Distinct (groups_of t)
  pub row : (x : ℕ) → 1 ≤ times x (groups_of t) → SoundRow (row_in x t)
  pub pair : (x y : ℕ) → x ≢ y → 1 ≤ times x (groups_of t) → 1 ≤ times y (groups_of t) → Parted (row_in x t) (row_in y t)

pub good_ids : (t : List Row) → Good t → SoundIds t
good_ids t g = record {
  distinct = ids_distinct t g.ids;
  row = λ x h. value_sound _ (none_to value_bad t g.values x h);
  pair = λ x y n hx hy. either (pairs_to ranges_meet t g.ranges x y n hx hy);
}
  where
    either : {w v : Row} → (ranges_meet w v ≡ false) ⊎ (ranges_meet v w ≡ false) → Parted w v
    either (inl h) = ranges_parted _ _ h
    either (inr h) = parted_flip (ranges_parted _ _ h)

pub ids_good : (t : List Row) → SoundIds t → Good t
ids_good t s = record {
  values = none_from value_bad t s.distinct (λ x h. sound_value _ (s.row x h));
  ids = distinct_ids t s.distinct;
  ranges = pairs_from ranges_meet t s.distinct (λ x y n hx hy. parted_ranges _ _ (s.row x hx).q_some (s.row y hy).q_some (s.pair x y n hx hy));
}

-- the check of rows, by their ids
pub sound_ids : (t : List Row) → sound_rows t ≡ answer t → SoundIds t
sound_ids t h = good_ids t (good_rows t h).0

pub ids_sound : (t : List Row) → SoundIds t → sound_rows t ≡ answer t
ids_sound t s = rows_good t (ids_good t s)
