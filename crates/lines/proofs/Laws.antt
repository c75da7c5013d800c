-- How many bytes lines and tables have, and what is written of them.
use mathlib.Core.Path.{◌≡◌, refl, ap, sym, subst, ◌∙◌}
use mathlib.Core.Bool.{Bool, true, false, cond}
use mathlib.Core.List.{List, [], ◌∷◌, ◌++◌}
use Prim.Native.Nat.{ℕ, ◌+◌, ◌*◌, ◌≤◌}
use native.Mathlib.Omega.{arith}
use lib.ListN.{length, length-append}
use Rattle.rules.specs.Answers.{Answer, answer, refused, then}
use Rattle.rules.specs.Buffers.{written, after}
use Rattle.rules.proofs.Answers.{same_answer, never_refused, then_cond}
use Rattle.rules.proofs.Bools.{or_none}
use Rattle.writer.specs.Writing.{Wrote, WroteAll}
use Rattle.writer.specs.declared.Writer.{Writer}
use Rattle.writer.proofs.Writing.{wrote_all, wrote_both, wrote_then}
use Rattle.rules.proofs.Pieces.{flat_most, length_four}
use Rattle.text.specs.Decimal.{decimal}
use Rattle.text.proofs.Laws.{decimal_count}
use Rattle.table.specs.Columns.{Columns, rows}
use Rattle.table.specs.declared.Row.{Row}
use Rattle.table.specs.declared.in_use.RowsInUse.{RowsInUse}
use Rattle.table.specs.InUse.{columns_of, rows_of}
use Rattle.table.specs.Check.{lengths_bad, in_use}
use Rattle.table.specs.Sound.{Lengths}
use Rattle.table.proofs.Lengths.{lengths_good, count_good}
use Rattle.table.proofs.Rows.{rows_length}
use Rattle.lines.specs.Lines.{field_text, line_text, heading_text, row_text, rows_text, table_text, held_text, columns_bad, table_answer, table_buffer}

-- ## A number and the byte after it

pub field_count : (n last : ℕ) → length (field_text n last) ≡ length (decimal n) + 1
unfolding field_text
field_count n last = length-append (decimal n) (last ∷ [])

pub field_most : (n last : ℕ) → length (field_text n last) ≤ 11
field_most n last = omega (arith, field_count n last, decimal_count n)

-- the digits, and then one byte
pub field_written : {a b c : Writer} (n last : ℕ) → Wrote a b (decimal n) → Wrote b c (last ∷ []) → a.at + length (field_text n last) ≤ length a.buffer.now
    → WroteAll a c (field_text n last)
unfolding field_text
field_written n last w v h = wrote_then w (wrote_all v) h

-- ## A line

pub line_most : (a : Answer ℕ) → length (line_text a) ≤ 14
unfolding line_text
line_most (answer n) = omega (arith, field_most n 10)
line_most (refused n) = omega (arith, field_most n 10)

pub ok_line : (n : ℕ) → (111 ∷ 107 ∷ 32 ∷ []) ++ field_text n 10 ≡ line_text (answer n)
unfolding line_text
ok_line n = refl

pub no_line : (n : ℕ) → (110 ∷ 111 ∷ 32 ∷ []) ++ field_text n 10 ≡ line_text (refused n)
unfolding line_text
no_line n = refl

-- ## Rows

pub row_count : (w : Row)
    → length (row_text w) ≡ length (field_text w.id 32) + length (field_text w.l 32) + length (field_text w.r 32) + length (field_text w.q 10)
unfolding row_text
row_count w = length_four (field_text w.id 32) (field_text w.l 32) (field_text w.r 32) (field_text w.q 10)

pub row_most : (w : Row) → length (row_text w) ≤ 44
row_most w = omega (arith, row_count w, field_most w.id 32, field_most w.l 32, field_most w.r 32, field_most w.q 10)

pub rows_most : (t : List Row) → length (rows_text t) ≤ 44 * length t
rows_most t = flat_most row_text 44 row_most t

pub text_most : (u : RowsInUse) → length (rows_text (rows_of u)) ≤ 44 * 256
text_most u = omega (arith, rows_most (rows_of u), rows_length (columns_of u) 0 (length u.id.now), u.few)

-- ## The heading and the rows

pub heading_count : length heading_text ≡ 16
unfolding heading_text
heading_count = refl

pub heading_is : 103 ∷ 114 ∷ 111 ∷ 117 ∷ 112 ∷ 32 ∷ 108 ∷ 32 ∷ 114 ∷ 32 ∷ 113 ∷ 117 ∷ 111 ∷ 116 ∷ 97 ∷ 10 ∷ [] ≡ heading_text
unfolding heading_text
heading_is = refl

pub table_count : (t : List Row) → length (table_text t) ≡ 16 + length (rows_text t)
unfolding table_text
table_count t = length-append heading_text (rows_text t) ∙ ap (λ n. n + length (rows_text t)) heading_count

pub table_most : (t : List Row) → length (table_text t) ≤ 16 + 44 * length t
table_most t = omega (arith, table_count t, rows_most t)

-- ## A table's writer

-- columns that pass 10
pub columns_good : (c : Columns) (count : ℕ) → columns_bad c count ≡ false → Lengths c × (count ≤ length c.id)
columns_good c count e = let b = or_none (lengths_bad c) _ e in (lengths_good c b.0, (count_good (length c.id) count b.1).1)

module _ (c : Columns) (count : ℕ) (buffer : List ℕ) (at : ℕ) where
  module _ (good : columns_bad c count ≡ false) where
    -- with columns that pass 10, the text is written, or 30
    pub table_good : (written buffer at (table_text (rows c count)) ≡ table_answer c count buffer at) × (after buffer at (table_text (rows c count)) ≡ table_buffer c count buffer at)
    unfolding table_answer table_buffer
    table_good = (rw good, rw good)

  -- the rows in use, or 10, and then the writer of their text
  pub table_steps : (then (in_use c count) (λ t. written buffer at (table_text t)) ≡ table_answer c count buffer at)
  unfolding in_use table_answer
  table_steps = then_cond (columns_bad c count) 10 (rows c count) (λ t. written buffer at (table_text t))

  -- the columns are refused, or the rows in use are the first `count`
  pub refused_table : {n : ℕ} → refused n ≡ in_use c count → (refused n ≡ table_answer c count buffer at) × (buffer ≡ table_buffer c count buffer at)
  unfolding in_use table_buffer
  refused_table {n} e = (ap (λ a. then a (λ t. written buffer at (table_text t))) e ∙ table_steps, go (columns_bad c count) e)
    where
      go : (b : Bool) → refused n ≡ cond b (refused 10) (answer (rows c count)) → buffer ≡ cond b buffer (after buffer at (table_text (rows c count)))
      go true e = refl
      go false e = never_refused e

  pub written_table : {t : List Row} → answer t ≡ in_use c count
      → (written buffer at (table_text t) ≡ table_answer c count buffer at) × (after buffer at (table_text t) ≡ table_buffer c count buffer at)
  unfolding in_use table_buffer
  written_table {t} e = (ap (λ a. then a (λ t. written buffer at (table_text t))) e ∙ table_steps, go (columns_bad c count) e)
    where
      go : (b : Bool) → answer t ≡ cond b (refused 10) (answer (rows c count)) → after buffer at (table_text t) ≡ cond b buffer (after buffer at (table_text (rows c count)))
      go true e = never_refused (sym e)
      go false e = ap (λ t. after buffer at (table_text t)) (same_answer e)

module _ (c : Columns) (count : ℕ) where
  -- of columns that are refused nothing is written; of others, the text of the rows in use
  pub refused_holds : {n : ℕ} → refused n ≡ in_use c count → [] ≡ held_text c count
  unfolding in_use held_text
  refused_holds {n} e = go (columns_bad c count) e
    where
      go : (b : Bool) → refused n ≡ cond b (refused 10) (answer (rows c count)) → [] ≡ cond b [] (table_text (rows c count))
      go true e = refl
      go false e = never_refused e

  pub written_holds : {t : List Row} → answer t ≡ in_use c count → table_text t ≡ held_text c count
  unfolding in_use held_text
  written_holds {t} e = go (columns_bad c count) e
    where
      go : (b : Bool) → answer t ≡ cond b (refused 10) (answer (rows c count)) → table_text t ≡ cond b [] (table_text (rows c count))
      go true e = never_refused (sym e)
      go false e = ap table_text (same_answer e)

-- bytes that are others' are written as those
pub wrote_same : {a b : Writer} {x y : List ℕ} → x ≡ y → Wrote a b x → Wrote a b y
wrote_same {a} {b} e w = subst (Wrote a b) e w

-- the heading, and then the rows
pub table_written : {a b c : Writer} {heading : List ℕ} (t : List Row) → heading ≡ heading_text → Wrote a b heading → WroteAll b c (rows_text t)
    → a.at + length (table_text t) ≤ length a.buffer.now → WroteAll a c (table_text t)
unfolding table_text
table_written t e w v h = wrote_then (wrote_same e w) (λ _. v) h

-- four fields, one after another
pub row_written : {a b c d e : Writer} (w : Row) → WroteAll a b (field_text w.id 32) → WroteAll b c (field_text w.l 32) → WroteAll c d (field_text w.r 32)
    → WroteAll d e (field_text w.q 10) → a.at + length (row_text w) ≤ length a.buffer.now → WroteAll a e (row_text w)
unfolding row_text
row_written {a} {b} {c} {d} {e} w f g h k fits =
    let n = length-append (field_text w.id 32) (field_text w.l 32 ++ (field_text w.r 32 ++ field_text w.q 10)) in
    let m = length-append (field_text w.l 32) (field_text w.r 32 ++ field_text w.q 10) in
    let o = length-append (field_text w.r 32) (field_text w.q 10) in
    let p = f.place in
    let q = g.place in
    let r = h.place in
    let i = f.same_length in
    let j = g.same_length in
    let l = h.same_length in
    wrote_both f (wrote_both g (wrote_both h k (omega arith)) (omega arith)) (omega arith)
