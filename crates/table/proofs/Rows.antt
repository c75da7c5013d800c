-- Laws of the rows of columns.
use mathlib.Core.Path.{◌≡◌, refl, ap, ◌∙◌}
use mathlib.Core.List.{List, [], ◌∷◌, ◌++◌, map}
use Prim.Native.Nat.{ℕ, zero, suc, ◌+◌, ◌-◌, ◌≤◌, ◌<◌}
use native.Mathlib.Omega.{arith}
use lib.ListN.{length, set, drop}
use lib.Seq.{set_split}
use Rattle.table.specs.Columns.{Columns, columns, row_at, rows_from, rows, put}
use Rattle.table.specs.declared.Row.{Row}
use Rattle.table.specs.Inside.Held.{Holds}

-- columns that hold some rows hold fewer
pub holds_less : {c : Columns} {m n : ℕ} → Holds c n → m ≤ n → Holds c m
holds_less h k = record { in_id = omega (arith, h.in_id); in_l = omega (arith, h.in_l); in_r = omega (arith, h.in_r); in_q = omega (arith, h.in_q) }

-- some rows are the first of them and the others
pub rows_split : (c : Columns) (i m n : ℕ) → rows_from c i (m + n) ≡ rows_from c i m ++ rows_from c (i + m) n
unfolding rows_from
rows_split c i zero n = let e : 0 + n ≡ n = omega arith in let f : i + 0 ≡ i = omega arith in rw (e, f)
rows_split c i (suc m) n =
    let e : suc m + n ≡ suc (m + n) = omega arith in
    let f : suc i + m ≡ i + suc m = omega arith in
    rw (e, ← f) (ap (λ (t : List Row). row_at c i ∷ t) (rows_split c (suc i) m n))

-- one row more
pub rows_more : (c : Columns) (n : ℕ) → rows c (n + 1) ≡ rows c n ++ (row_at c n ∷ [])
unfolding rows_from
rows_more c n = let e : 0 + n ≡ n = omega arith in rows_split c 0 n 1 ∙ rw e

-- the rows up to a row, that row, and the others
pub rows_at : (c : Columns) (i n : ℕ) → i < n → rows c n ≡ rows c (i + 1) ++ rows_from c (i + 1) (n - (i + 1))
rows_at c i n h =
    let e : n ≡ i + 1 + (n - (i + 1)) = omega arith in
    let f : 0 + (i + 1) ≡ i + 1 = omega arith in
    ap (rows c) e ∙ rows_split c 0 (i + 1) (n - (i + 1)) ∙ rw f

pub rows_length : (c : Columns) (i n : ℕ) → length (rows_from c i n) ≡ n
unfolding rows_from
rows_length c i zero = refl
rows_length c i (suc n) = ap suc (rows_length c (suc i) n)

-- one row more on top moves every row down
shift : (w : Row) (a b d e : List ℕ) (i n : ℕ)
    → rows_from (columns (w.id ∷ a) (w.l ∷ b) (w.r ∷ d) (w.q ∷ e)) (suc i) n ≡ rows_from (columns a b d e) i n
unfolding rows_from
shift w a b d e i zero = refl
shift w a b d e i (suc n) = ap (λ t. row_at (columns a b d e) i ∷ t) (shift w a b d e (suc i) n)

rows_laid : (t : List Row) (a b d e : List ℕ)
    → rows (columns (map (λ w. w.id) t ++ a) (map (λ w. w.l) t ++ b) (map (λ w. w.r) t ++ d) (map (λ w. w.q) t ++ e)) (length t) ≡ t
unfolding rows_from
rows_laid [] a b d e = refl
rows_laid (w ∷ t) a b d e =
    ap (λ s. w ∷ s)
    (shift w (map (λ w. w.id) t ++ a) (map (λ w. w.l) t ++ b) (map (λ w. w.r) t ++ d) (map (λ w. w.q) t ++ e) 0 (length t) ∙ rows_laid t a b d e)

-- the rows that were put into columns are the columns' rows
pub rows_put : (t : List Row) (c : Columns) → rows (put t c) (length t) ≡ t
unfolding put
rows_put t c = rows_laid t _ _ _ _

-- one row put into columns is a store at the top of each
set_first : (v : ℕ) (s : List ℕ) → 1 ≤ length s → set s 0 v ≡ v ∷ drop 1 s
set_first v s h = set_split s 0 v (omega arith)

pub put_one : (c : Columns) (w : Row) → Holds c 1
    → columns (set c.id 0 w.id) (set c.l 0 w.l) (set c.r 0 w.r) (set c.q 0 w.q) ≡ put (w ∷ []) c
unfolding put
put_one c w h =
    rw (set_first w.id c.id h.in_id, set_first w.l c.l h.in_l, set_first w.r c.r h.in_r, set_first w.q c.q h.in_q)
