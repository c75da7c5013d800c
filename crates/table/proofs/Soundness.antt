-- The check refuses exactly the unsound tables.
use mathlib.Core.Path.{◌≡◌, refl, ap, sym, ◌∙◌}
use mathlib.Core.Bool.{Bool, true, false, true≢false}
use mathlib.Core.Logic.{◌⊎◌, inl, inr, ⊎_elim}
use Prim.Native.Nat.{ℕ, zero, suc, ◌+◌, ◌-◌, ◌≤◌, ◌<◌}
use native.Mathlib.Omega.{arith}
use native.Mathlib.Numerals.{add-one}
use lib.Dec.{eqb, ltb}
use lib.ListN.{length}
use borrow.Author.Tests.{eqb-false, ltb-false, eq-eqb, ne_eqb, le-ltb}
use Rattle.rules.specs.Answers.{Answer, answer, refused}
use Rattle.rules.specs.Limits.{greatest}
use Rattle.rules.proofs.Bools.{or_none, not_none}
use Rattle.rules.proofs.Cases.{by_lt}
use Rattle.coordinates.specs.Coordinates.{apart}
use Rattle.coordinates.proofs.Ranges.{apart_clear, clear_apart}
use Rattle.table.specs.Columns.{low_l, size_of, Columns, row_at, rows}
use Rattle.table.specs.declared.Row.{Row}
use Rattle.table.specs.Check.{some_row, some_pair, lengths_bad, value_bad, same_id, ranges_meet, checked}
use Rattle.table.specs.Sound.{In, SoundRow, Apart, Lengths, Sound}
use Rattle.table.proofs.Tests.{none_more, no_pair_more, some_found, pair_found, none_yet, no_pair_yet}
use Rattle.table.proofs.Lengths.{good_count}
use Rattle.table.proofs.Passing.{Good, Passed, rows_good, check_passed}

pub not_so : (b : Bool) → (b ≡ true → ⊥) → b ≡ false
not_so true h = absurd (h refl)
not_so false h = refl

-- no row has it: every row lacks it
module _ (c : Columns) (p : Row → Bool) where
  none_each : (n : ℕ) → some_row p (rows c n) ≡ false → (i : ℕ) → i < n → p (row_at c i) ≡ false
  none_each n e i h = not_so (p (row_at c i)) (λ k. true≢false (sym (some_found c i n p h k) ∙ e))

  each_none : (n : ℕ) → ((i : ℕ) → i < n → p (row_at c i) ≡ false) → some_row p (rows c n) ≡ false
  each_none zero f = none_yet c p
  each_none (suc n) f = rw (← add-one n) (none_more c n p (each_none n (λ i h. f i (omega arith))) (f n (omega arith)))

-- no two rows have it: every two lack it
module _ (c : Columns) (p : Row → Row → Bool) where
  no_pair_each : (n : ℕ) → some_pair p (rows c n) ≡ false → (i j : ℕ) → i < j → j < n → p (row_at c i) (row_at c j) ≡ false
  no_pair_each n e i j h k =
      none_each c (λ v. p v (row_at c j)) j (not_so _ (λ b. true≢false (sym (pair_found c j n p k b) ∙ e))) i h

  each_no_pair : (n : ℕ) → ((i j : ℕ) → i < j → j < n → p (row_at c i) (row_at c j) ≡ false) → some_pair p (rows c n) ≡ false
  each_no_pair zero f = no_pair_yet c p
  each_no_pair (suc n) f =
      rw (← add-one n)
      (no_pair_more c n p (each_no_pair n (λ i j h k. f i j h (omega arith)))
      (each_none c (λ v. p v (row_at c n)) n (λ i h. f i n h (omega arith))))

-- ranges are apart where no number is in both
module _ (a q b p : ℕ) (some : 1 ≤ q) (other : 1 ≤ p) where
  apart_none : apart a q b p ≡ true → (n : ℕ) → In n a q → In n b p → ⊥
  apart_none e n x y = ⊎_elim (λ h. omega (arith, x.0, x.1, y.0, y.1)) (λ h. omega (arith, x.0, x.1, y.0, y.1)) (apart_clear a q b p e)

  -- ranges that are not have the greater of the two starts in both
  none_apart : ((n : ℕ) → In n a q → In n b p → ⊥) → apart a q b p ≡ true
  none_apart f =
      let both : b < a + q → a < b + p → ⊥ = λ h k.
      by_lt a b (λ m. f b (omega arith, omega arith) (omega arith, omega arith)) (λ m. f a (omega arith, omega arith) (omega arith, omega arith)) in
      clear_apart a q b p some other (by_lt b (a + q) (λ h. inr (by_lt a (b + p) (λ k. absurd (both h k)) (λ k. k))) inl)

-- 11
pub value_sound : (w : Row) → value_bad w ≡ false → SoundRow w
unfolding value_bad
value_sound w e =
    let a = or_none (eqb w.id 0) _ e in
    let b = or_none (eqb w.l 0) _ a.1 in
    let c = or_none (eqb w.r 0) _ b.1 in
    let d = or_none (eqb w.q 0) _ c.1 in
    let f = or_none (ltb greatest (low_l w + size_of w - 1)) _ d.1 in
    let i : w.id ≡ 0 → ⊥ = eqb-false _ _ a.0 in
    let l : w.l ≡ 0 → ⊥ = eqb-false _ _ b.0 in
    let r : w.r ≡ 0 → ⊥ = eqb-false _ _ c.0 in
    let q : w.q ≡ 0 → ⊥ = eqb-false _ _ d.0 in
    record {
      id_some = omega arith;
      l_some = omega arith;
      r_some = omega arith;
      q_some = omega arith;
      l_end = ltb-false _ _ f.0;
      r_end = ltb-false _ _ f.1;
    }

pub sound_value : (w : Row) → SoundRow w → value_bad w ≡ false
unfolding value_bad
sound_value w s =
    let i : w.id ≡ 0 → ⊥ = λ e. omega (arith, s.id_some) in
    let l : w.l ≡ 0 → ⊥ = λ e. omega (arith, s.l_some) in
    let r : w.r ≡ 0 → ⊥ = λ e. omega (arith, s.r_some) in
    let q : w.q ≡ 0 → ⊥ = λ e. omega (arith, s.q_some) in
    rw (ne_eqb _ _ i, ne_eqb _ _ l, ne_eqb _ _ r, ne_eqb _ _ q, le-ltb _ _ s.l_end, le-ltb _ _ s.r_end)

-- 12 and 13
pair_apart : (w v : Row) → SoundRow w → SoundRow v → same_id w v ≡ false → ranges_meet w v ≡ false → Apart w v
unfolding same_id ranges_meet
pair_apart w v s t e f =
    let m = or_none _ _ f in
    record {
      ids = eqb-false _ _ e;
      l_ranges = apart_none _ _ _ _ s.q_some t.q_some (not_none _ m.0);
      r_ranges = apart_none _ _ _ _ s.q_some t.q_some (not_none _ m.1);
    }

apart_ids : (w v : Row) → Apart w v → same_id w v ≡ false
unfolding same_id
apart_ids w v a = ne_eqb _ _ a.ids

apart_ranges : (w v : Row) → SoundRow w → SoundRow v → Apart w v → ranges_meet w v ≡ false
unfolding ranges_meet
apart_ranges w v s t a =
    rw (none_apart _ _ _ _ s.q_some t.q_some a.l_ranges, none_apart _ _ _ _ s.q_some t.q_some a.r_ranges)

passed_sound : (c : Columns) (count : ℕ) → Passed c count → Sound c count
passed_sound c count p =
    let good = p.good in
    let row : (i : ℕ) → i < count → SoundRow (row_at c i) = λ i h. value_sound _ (none_each c value_bad count good.values i h) in
    record {
      lengths = p.lengths;
      count_some = p.some;
      count_most = p.most;
      row = row;
      pair = λ i j h k.
          pair_apart _ _ (row i (omega arith)) (row j k)
          (no_pair_each c same_id count good.ids i j h k)
          (no_pair_each c ranges_meet count good.ranges i j h k);
    }

sound_good : (c : Columns) (count : ℕ) → Sound c count → Good (rows c count)
sound_good c count s =
    record {
      values = each_none c value_bad count (λ i h. sound_value _ (s.row i h));
      ids = each_no_pair c same_id count (λ i j h k. apart_ids _ _ (s.pair i j h k));
      ranges = each_no_pair c ranges_meet count (λ i j h k. apart_ranges _ _ (s.row i (omega arith)) (s.row j k) (s.pair i j h k));
    }

lengths_pass : {c : Columns} → Lengths c → lengths_bad c ≡ false
unfolding lengths_bad
lengths_pass {c} l =
    let none : length c.id ≡ 0 → ⊥ = λ e. omega (arith, l.some) in
    rw (eq-eqb _ _ l.in_l, eq-eqb _ _ l.in_r, eq-eqb _ _ l.in_q, ne_eqb _ _ none, le-ltb _ _ l.most)

-- A table that passes the check is sound, and a sound table passes it.
pub check_sound : (c : Columns) (count : ℕ) → checked c count ≡ answer (rows c count) → Sound c count
check_sound c count e = passed_sound c count (check_passed c count e).0

pub sound_checks : (c : Columns) (count : ℕ) → Sound c count → checked c count ≡ answer (rows c count)
unfolding checked
sound_checks c count s =
    rw (lengths_pass s.lengths, good_count _ _ s.count_some s.count_most) (rows_good (rows c count) (sound_good c count s))

-- The check answers the rows in use or refuses.
pub sound_or_refused : (c : Columns) (count : ℕ) → (checked c count ≡ answer (rows c count)) ⊎ ((n : ℕ) × (checked c count ≡ refused n))
sound_or_refused c count = go (checked c count) refl
  where
    go : (a : Answer _) → checked c count ≡ a → (checked c count ≡ answer (rows c count)) ⊎ ((n : ℕ) × (checked c count ≡ refused n))
    go (answer t) e = inl (e ∙ ap answer (sym (check_passed c count e).1))
    go (refused n) e = inr (n, e)
