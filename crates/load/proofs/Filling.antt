-- Rows read into work columns one after another.
use mathlib.Core.Path.{◌≡◌, refl, ap, ap₂, sym, ◌∙◌}
use mathlib.Core.List.{List, [], ◌∷◌, ◌++◌, append-nil}
use Prim.Native.Nat.{ℕ, zero, suc, ◌+◌, ◌-◌, ◌<◌, ◌≤◌}
use native.Mathlib.Omega.{arith}
use lib.ListN.{length, length-set}
use lib.Seq.{get_or-set_same, get_or-set_other, append_snoc}
use Rattle.rules.specs.Answers.{Answer, answer, refused, then}
use Rattle.table.specs.Columns.{Columns, row_at, rows_from, rows}
use Rattle.table.specs.declared.Row.{Row}
use Rattle.table.specs.Inside.Held.{Holds}
use Rattle.table.proofs.Rows.{rows_more}
use Rattle.stored.specs.Stored.{row_read, Rows, joined, rows_at}
use Rattle.stored.specs.declared.RowRead.{RowRead}
use Rattle.stored.proofs.Laws.{rows_suc}
use Rattle.load.specs.Work.{work_columns, set_row}
use Rattle.load.specs.declared.work.Work.{Work}
use Rattle.rules.specs.Capacities.{row_capacity}

-- ## A row set in columns

set_holds : {c : Columns} {n : ℕ} (i : ℕ) (w : Row) → Holds c n → Holds (set_row c i w) n
set_holds {c} i w h =
    let a = length-set c.id i w.id in
    let b = length-set c.l i w.l in
    let d = length-set c.r i w.r in
    let e = length-set c.q i w.q in
    record { in_id = omega arith; in_l = omega arith; in_r = omega arith; in_q = omega arith }

-- the rows before it stay
set_kept : (c : Columns) (i : ℕ) (w : Row) (j n : ℕ) → j + n ≤ i → rows_from (set_row c i w) j n ≡ rows_from c j n
unfolding rows_from
set_kept c i w j zero h = refl
set_kept c i w j (suc n) h =
    let ne : j ≡ i → ⊥ = λ e. omega arith in
    let a = get_or-set_other c.id i j w.id 0 ne in
    let b = get_or-set_other c.l i j w.l 0 ne in
    let d = get_or-set_other c.r i j w.r 0 ne in
    let e = get_or-set_other c.q i j w.q 0 ne in
    let v : row_at (set_row c i w) j ≡ row_at c j = cc in
    ap₂ (λ x xs. x ∷ xs) v (set_kept c i w (suc j) n (omega arith))

set_more : (c : Columns) (i : ℕ) (w : Row) → Holds c (i + 1) → rows (set_row c i w) (i + 1) ≡ rows c i ++ (w ∷ [])
set_more c i w h =
    let a = get_or-set_same c.id i w.id 0 (omega (arith, h.in_id)) in
    let b = get_or-set_same c.l i w.l 0 (omega (arith, h.in_l)) in
    let d = get_or-set_same c.r i w.r 0 (omega (arith, h.in_r)) in
    let e = get_or-set_same c.q i w.q 0 (omega (arith, h.in_q)) in
    let v : row_at (set_row c i w) i ≡ record { id = w.id; l = w.l; r = w.r; q = w.q } = cc in
    rows_more (set_row c i w) i ∙ ap₂ (λ (s : List Row) (v : Row). s ++ (v ∷ [])) (set_kept c i w 0 i (omega arith)) v

-- work columns hold as many rows as columns may have
pub work_holds : {w : Work} {n : ℕ} → length w.id ≡ row_capacity → length w.l ≡ row_capacity → length w.r ≡ row_capacity → length w.q ≡ row_capacity → n ≤ row_capacity → Holds (work_columns w) n
work_holds i l r q h = record { in_id = omega arith; in_l = omega arith; in_r = omega arith; in_q = omega arith }

-- ## The rows read so far, and those still to be read

abbrev behind : List Row → Answer Rows → Answer Rows
behind s a = then a λ (t : Rows). answer (record { rows = s ++ t.rows; next = t.next })

behind_none : (a : Answer Rows) → behind [] a ≡ a
behind_none (answer t) = refl
behind_none (refused n) = refl

behind_more : (s : List Row) (w : Row) (a : Answer Rows) → behind (s ++ (w ∷ [])) a ≡ behind s (joined w a)
behind_more s w (answer t) = ap (λ (u : List Row). answer (record { rows = u; next = t.next })) (append_snoc s w t.rows)
behind_more s w (refused n) = refl

-- what stands at `next` behind the rows read so far is the whole
pub record Fills (bytes : List ℕ) (at count : ℕ) (c : Columns) (next i : ℕ) : Type 0 where
  pub within : i ≤ count
  pub holds : Holds c count
  pub whole : behind (rows c i) (rows_at (count - i) bytes next) ≡ rows_at count bytes at

pub fill_begins : (bytes : List ℕ) (at count : ℕ) (c : Columns) → Holds c count → Fills bytes at count c at 0
unfolding rows_from
fill_begins bytes at count c h =
    let e : count - 0 ≡ count = omega arith in
    record { within = omega arith; holds = h; whole = behind_none (rows_at (count - 0) bytes at) ∙ ap (λ (n : ℕ). rows_at n bytes at) e }

module _ {bytes : List ℕ} {at count : ℕ} {c : Columns} {next i : ℕ} (f : Fills bytes at count c next i) where
  -- one row, and the others after it
  step : i < count → behind (rows c i) (then (row_read bytes next) (λ (w : RowRead). joined w.row (rows_at (count - (i + 1)) bytes w.next))) ≡ rows_at count bytes at
  step less =
      let e : count - i ≡ suc (count - (i + 1)) = omega arith in
      sym (ap (behind (rows c i)) (ap (λ (n : ℕ). rows_at n bytes next) e ∙ rows_suc (count - (i + 1)) bytes next)) ∙ f.whole

  pub fill_again : {read : RowRead} → i < count → answer read ≡ row_read bytes next → Fills bytes at count (set_row c i read.row) read.next (i + 1)
  fill_again {read} less e =
      let w = read.row in
      let rest = rows_at (count - (i + 1)) bytes read.next in
      let h = f.holds in
      record {
        within = omega arith;
        holds = set_holds i w h;
        whole =
            ap (λ (s : List Row). behind s rest) (set_more c i w (record { in_id = omega arith; in_l = omega arith; in_r = omega arith; in_q = omega arith }))
            ∙ behind_more (rows c i) w rest
            ∙ rw (sym e) at (step less);
      }

  pub fill_stops : {n : ℕ} → i < count → refused n ≡ row_read bytes next → refused n ≡ rows_at count bytes at
  fill_stops less e = rw (sym e) at (step less)

  pub fill_ends : count ≤ i → answer (record { rows = rows c count; next = next }) ≡ rows_at count bytes at
  unfolding rows_at
  fill_ends more =
      let e : i ≡ count = omega (arith, f.within) in
      let z : count - count ≡ 0 = omega arith in
      ap (λ (s : List Row). answer (record { rows = s; next = next })) (sym (append-nil (rows c count))) ∙ rw (e, z) at f.whole
