-- Tests over rows and pairs of rows: a row more, and a row that is found.
use mathlib.Core.Path.{◌≡◌, refl, ap, sym, ◌∙◌}
use mathlib.Core.Bool.{Bool, true, false, ◌||◌, true≢false, or_assoc, or-false, or-true}
use mathlib.Core.List.{List, [], ◌∷◌, ◌++◌}
use Prim.Native.Nat.{ℕ, ◌+◌, ◌-◌, ◌<◌, ◌≤◌}
use native.Mathlib.Omega.{arith}
use Rattle.std.specs.List.{list_any}
use Rattle.table.specs.Columns.{Columns, row_at, rows_from, rows}
use Rattle.table.specs.declared.Row.{Row}
use Rattle.table.specs.Check.{some_row, some_pair}
use Rattle.table.proofs.Rows.{rows_more, rows_at}

or_cross : (a b c d : Bool) → ((a || b) || (c || d)) ≡ ((a || c) || (b || d))
or_cross true b c d = refl
or_cross false true true d = refl
or_cross false true false d = refl
or_cross false false true d = refl
or_cross false false false d = refl

pub some_append : (p : Row → Bool) (s t : List Row) → some_row p (s ++ t) ≡ (some_row p s || some_row p t)
unfolding some_row
some_append p [] t = refl
some_append p (w ∷ s) t = ap (λ b. p w || b) (some_append p s t) ∙ sym (or_assoc (p w) (some_row p s) (some_row p t))

pub some_one : (p : Row → Bool) (w : Row) → some_row p (w ∷ []) ≡ p w
unfolding some_row
some_one p w = or-false (p w)

-- a test of some row, in std's word
pub some_any : (p : Row → Bool) (s : List Row) → list_any p s ≡ some_row p s
unfolding some_row
some_any p [] = refl
some_any p (w ∷ s) = ap (λ b. p w || b) (some_any p s)

-- a pair of s and one row more: a pair of s, or a row of s with that one
pub pair_one : (p : Row → Row → Bool) (s : List Row) (w : Row) → some_pair p (s ++ (w ∷ [])) ≡ (some_pair p s || some_row (λ v. p v w) s)
unfolding some_pair some_row
pair_one p [] w = refl
pair_one p (v ∷ s) w =
    ap (λ b. b || some_pair p (s ++ (w ∷ []))) (some_append (p v) s (w ∷ []) ∙ ap (λ b. some_row (p v) s || b) (some_one (p v) w))
    ∙ ap (λ b. (some_row (p v) s || p v w) || b) (pair_one p s w)
    ∙ or_cross (some_row (p v) s) (p v w) (some_pair p s) (some_row (λ v. p v w) s)

-- a pair of s is a pair of s and more rows
pair_step : (p : Row → Row → Bool) (v : Row) (s t : List Row) (a b : Bool) → some_row (p v) s ≡ a → (b ≡ true → some_pair p (s ++ t) ≡ true) → (a || b) ≡ true
    → (some_row (p v) (s ++ t) || some_pair p (s ++ t)) ≡ true
pair_step p v s t true b ea ih h = rw (some_append (p v) s t, ea)
pair_step p v s t false b ea ih h = rw (ih h) (or-true (some_row (p v) (s ++ t)))

pub pair_more : (p : Row → Row → Bool) (s t : List Row) → some_pair p s ≡ true → some_pair p (s ++ t) ≡ true
unfolding some_pair
pair_more p [] t h = absurd (true≢false (sym h))
pair_more p (v ∷ s) t h = pair_step p v s t (some_row (p v) s) (some_pair p s) refl (pair_more p s t) h

module _ (c : Columns) (i : ℕ) where
  -- none of the first i rows, nor row i
  pub none_more : (p : Row → Bool) → some_row p (rows c i) ≡ false → p (row_at c i) ≡ false → some_row p (rows c (i + 1)) ≡ false
  none_more p h k = ap (some_row p) (rows_more c i) ∙ some_append p (rows c i) (row_at c i ∷ []) ∙ rw (h, some_one p (row_at c i), k)

  -- at the end of the rows
  pub none_all : (n : ℕ) (p : Row → Bool) → i ≤ n → n ≤ i → some_row p (rows c i) ≡ false → false ≡ some_row p (rows c n)
  none_all n p h k e = let f : i ≡ n = omega arith in sym (rw f at e)

  pub no_pair_more : (p : Row → Row → Bool) → some_pair p (rows c i) ≡ false → some_row (λ v. p v (row_at c i)) (rows c i) ≡ false
      → some_pair p (rows c (i + 1)) ≡ false
  no_pair_more p h k = ap (some_pair p) (rows_more c i) ∙ pair_one p (rows c i) (row_at c i) ∙ rw (h, k)

  -- row i, of more rows than i
  some_here : (p : Row → Bool) → p (row_at c i) ≡ true → some_row p (rows c (i + 1)) ≡ true
  some_here p k = ap (some_row p) (rows_more c i) ∙ some_append p (rows c i) (row_at c i ∷ []) ∙ rw (some_one p (row_at c i), k) (or-true (some_row p (rows c i)))

  pub some_found : (n : ℕ) (p : Row → Bool) → i < n → p (row_at c i) ≡ true → some_row p (rows c n) ≡ true
  some_found n p h k =
      ap (some_row p) (rows_at c i n h) ∙ some_append p (rows c (i + 1)) (rows_from c (i + 1) (n - (i + 1))) ∙ rw (some_here p k)

  pair_here : (p : Row → Row → Bool) → some_row (λ v. p v (row_at c i)) (rows c i) ≡ true → some_pair p (rows c (i + 1)) ≡ true
  pair_here p k = ap (some_pair p) (rows_more c i) ∙ pair_one p (rows c i) (row_at c i) ∙ rw k (or-true (some_pair p (rows c i)))

  pub pair_found : (n : ℕ) (p : Row → Row → Bool) → i < n → some_row (λ v. p v (row_at c i)) (rows c i) ≡ true → some_pair p (rows c n) ≡ true
  pair_found n p h k =
      ap (some_pair p) (rows_at c i n h) ∙ pair_more p (rows c (i + 1)) (rows_from c (i + 1) (n - (i + 1))) (pair_here p k)

-- before the first row
pub none_yet : (c : Columns) (p : Row → Bool) → some_row p (rows c 0) ≡ false
unfolding some_row rows_from
none_yet c p = refl

pub no_pair_yet : (c : Columns) (p : Row → Row → Bool) → some_pair p (rows c 0) ≡ false
unfolding some_pair rows_from
no_pair_yet c p = refl
