-- What the check of the columns says of them.
use mathlib.Core.Path.{◌≡◌, ap, sym, ◌∙◌}
use mathlib.Core.Bool.{false, ◌||◌}
use mathlib.Core.List.{List}
use Prim.Native.Nat.{ℕ, ◌≤◌}
use lib.ListN.{length}
use Rattle.std.specs.Prelude.{Result, Ok, Err}
use Rattle.rules.specs.Answers.{answer, refused, then, given}
use Rattle.rules.specs.Refusals.{refusal_number}
use Rattle.rules.specs.declared.Refusal.{Refusal}
use Rattle.rules.proofs.Answers.{same_answer, peel, then_answer, then_refused, then_cond}
use Rattle.rules.proofs.Bools.{or_none}
use Rattle.table.specs.Columns.{Columns, rows}
use Rattle.table.specs.declared.Row.{Row}
use Rattle.table.specs.Check.{some_row, some_pair, lengths_bad, count_bad, in_use, value_bad, same_id, ranges_meet, sound_rows, checked}
use Rattle.table.specs.Sound.{Lengths}
use Rattle.table.specs.InUse.{rows_of, found}
use Rattle.table.specs.declared.in_use.RowsInUse.{RowsInUse}
use Rattle.table.proofs.Lengths.{lengths_good, count_good}

-- rows that pass 11, 12 and 13
pub record Good (t : List Row) : Type 0 where
  pub values : some_row value_bad t ≡ false
  pub ids : some_pair same_id t ≡ false
  pub ranges : some_pair ranges_meet t ≡ false

pub good_rows : (t : List Row) {s : List Row} → sound_rows t ≡ answer s → Good t × (t ≡ s)
unfolding sound_rows
good_rows t e =
    let a = peel (some_row value_bad t) _ _ e in
    let b = peel (some_pair same_id t) _ _ a.1 in
    let c = peel (some_pair ranges_meet t) _ _ b.1 in
    (record { values = a.0; ids = b.0; ranges = c.0 }, same_answer c.1)

pub rows_good : (t : List Row) → Good t → sound_rows t ≡ answer t
unfolding sound_rows
rows_good t g = rw (g.values, g.ids, g.ranges)

-- the check is that of the lengths and of the count, and then that of the rows
checked_steps : (c : Columns) (count : ℕ) → then (in_use c count) sound_rows ≡ checked c count
unfolding in_use checked
checked_steps c count = then_cond (lengths_bad c || count_bad (length c.id) count) 10 (rows c count) sound_rows

module _ (c : Columns) (count : ℕ) where
  pub refused_at_once : {n : ℕ} → refused n ≡ in_use c count → refused n ≡ checked c count
  refused_at_once e = ap (λ a. then a sound_rows) e ∙ checked_steps c count

  pub refused_rows : {t : List Row} {n : ℕ} → answer t ≡ in_use c count → refused n ≡ given (sound_rows t) → refused n ≡ checked c count
  refused_rows {t} e f = sym (then_refused (sound_rows t) (λ _. tt) (sym f)) ∙ ap (λ a. then a sound_rows) e ∙ checked_steps c count

  pub sound_answer : {t : List Row} → answer t ≡ in_use c count → answer tt ≡ given (sound_rows t) → answer t ≡ checked c count
  sound_answer {t} e f =
      let a = then_answer (sound_rows t) _ (sym f) in
      ap answer (good_rows t a.1).1 ∙ sym a.1 ∙ ap (λ a. then a sound_rows) e ∙ checked_steps c count

-- columns that pass the check
pub record Passed (c : Columns) (count : ℕ) : Type 0 where
  pub lengths : Lengths c
  pub some : 1 ≤ count
  pub most : count ≤ length c.id
  pub good : Good (rows c count)

pub check_passed : (c : Columns) (count : ℕ) {t : List Row} → checked c count ≡ answer t → Passed c count × (rows c count ≡ t)
unfolding checked
check_passed c count e =
    let a = peel _ _ _ e in
    let b = or_none (lengths_bad c) _ a.0 in
    let d = count_good _ _ b.1 in
    let g = good_rows (rows c count) a.1 in
    (record { lengths = lengths_good c b.0; some = d.0; most = d.1; good = g.0 }, g.1)

-- what a verdict of the code means
module _ (c : Columns) (count : ℕ) {v : Result RowsInUse Refusal} (e : found v ≡ checked c count) where
  pub sound : {u : RowsInUse} → v ≡ Ok u → Passed c count × (checked c count ≡ answer (rows c count))
  sound {u} h =
      let a : checked c count ≡ answer (rows_of u) = sym (ap found (sym h) ∙ e) in
      let p = check_passed c count a in
      (p.0, a ∙ ap answer (sym p.1))

  pub unsound : {why : Refusal} → v ≡ Err why → checked c count ≡ refused (refusal_number why)
  unsound h = sym (ap found (sym h) ∙ e)
