-- Columns that pass 10.
use mathlib.Core.Path.{◌≡◌}
use mathlib.Core.Bool.{false}
use mathlib.Core.List.{List, map}
use Prim.Native.Nat.{ℕ, ◌≤◌}
use native.Mathlib.Omega.{arith}
use lib.Dec.{eqb, ltb}
use lib.ListN.{length, length-append, length-drop, length-map}
use borrow.Author.Tests.{eqb-true, eqb-false, ltb-false, ne_eqb, le-ltb}
use Rattle.rules.specs.Limits.{most_rows}
use Rattle.rules.proofs.Bools.{or_none, and_both, not_none}
use Rattle.table.specs.Columns.{Columns, overlay, put}
use Rattle.table.specs.declared.Row.{Row}
use Rattle.table.specs.Check.{lengths_bad, count_bad}
use Rattle.table.specs.Sound.{Lengths}
use Rattle.table.specs.Inside.Held.{Holds}

pub lengths_good : (c : Columns) → lengths_bad c ≡ false → Lengths c
unfolding lengths_bad
lengths_good c e =
    let n = length c.id in
    let all = or_none _ _ e in
    let same = and_both (eqb (length c.l) n) _ (not_none _ all.0) in
    let others = and_both (eqb (length c.r) n) (eqb (length c.q) n) same.1 in
    let range = or_none (eqb n 0) (ltb most_rows n) all.1 in
    let some : n ≡ 0 → ⊥ = eqb-false n 0 range.0 in
    record {
      in_l = eqb-true _ _ same.0;
      in_r = eqb-true _ _ others.0;
      in_q = eqb-true _ _ others.1;
      some = omega arith;
      most = ltb-false _ _ range.1;
    }

pub count_good : (n count : ℕ) → count_bad n count ≡ false → (1 ≤ count) × (count ≤ n)
unfolding count_bad
count_good n count e =
    let both = or_none (eqb count 0) (ltb n count) e in
    let some : count ≡ 0 → ⊥ = eqb-false count 0 both.0 in
    (omega arith, ltb-false n count both.1)

pub good_count : (n count : ℕ) → 1 ≤ count → count ≤ n → count_bad n count ≡ false
unfolding count_bad
good_count n count some most = rw (ne_eqb count 0 (λ e. omega arith), le-ltb n count most)

pub holds_count : {c : Columns} {count : ℕ} → Lengths c → count ≤ length c.id → Holds c count
holds_count l h = record { in_id = h; in_l = omega (arith, l.in_l); in_r = omega (arith, l.in_r); in_q = omega (arith, l.in_q) }

-- ## Rows that are put into columns keep the columns' lengths

column_length_lem : (f : Row → ℕ) (t : List Row) (column : List ℕ) → length t ≤ length column → length (overlay (map f t) column) ≡ length column
column_length_lem f t column h = simp (length-append, length-drop, length-map) (omega arith)

lengths_alike : (c d : Columns) → length d.id ≡ length c.id → length d.l ≡ length c.l → length d.r ≡ length c.r → length d.q ≡ length c.q
    → lengths_bad d ≡ lengths_bad c
unfolding lengths_bad
lengths_alike c d hi hl hr hq = rw (hi, hl, hr, hq)

module _ (t : List Row) (c : Columns) where
  pub put_length : length t ≤ length c.id → length (put t c).id ≡ length c.id
  unfolding put
  put_length fits = column_length_lem _ t c.id fits

  pub put_lengths : lengths_bad c ≡ false → length t ≤ length c.id → lengths_bad (put t c) ≡ false
  unfolding put
  put_lengths good fits =
      let h = holds_count (lengths_good c good) fits in
      rw (lengths_alike c (put t c) (column_length_lem _ t _ fits) (column_length_lem _ t _ h.in_l) (column_length_lem _ t _ h.in_r) (column_length_lem _ t _ h.in_q)) good
