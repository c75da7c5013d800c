-- The columns that the code writes hold the rows of the definition.
use mathlib.Core.Path.{◌≡◌, refl, ap, ap₂, sym, ◌∙◌}
use mathlib.Core.Bool.{true, false, cond, true≢false}
use mathlib.Core.List.{List, [], ◌∷◌, ◌++◌, map, map-append, map-map}
use Prim.Native.Nat.{ℕ, zero, suc, ◌+◌, ◌≤◌, ◌<◌}
use native.Mathlib.Omega.{arith}
use lib.Dec.{eqb}
use lib.ListN.{length, get_or, set, take, drop, length-set, length-append, length-map}
use lib.Seq.{sets, sets-eq, set_comm, drop-cons, drop-set-lt, get_or-set_same, get_or-set_other, length-take-le}
use borrow.Author.Tests.{eq-eqb, ne_eqb, eqb-true}
use Rattle.rules.proofs.Cases.{by_lt, by_eq}
use Rattle.request.specs.Entries.{Entry, entry_of, pick, sum, times, without}
use Rattle.request.specs.Request.{Request, entries}
use Rattle.table.specs.declared.Row.{Row}
use Rattle.table.specs.Columns.{Columns, row_at, rows_from, rows, overlay}
use Rattle.table.specs.Check.{some_pair, same_id}
use Rattle.table.proofs.Tests.{some_found, pair_found}
use Rattle.refine.specs.Refine.{row_in, row_for, kept_row, kept_rows, new_rows, refine_rows}
use Rattle.refine.specs.Inside.Placing.{placed}

-- what an entry with the id u has
abbrev pub value_at : ℕ → (Entry → ℕ) → Entry → ℕ
value_at u f e = pick (eqb u e.id) (f e) 0

value_none : (u : ℕ) (f : Entry → ℕ) (s : List Entry) → times u s ≡ 0 → sum (value_at u f) s ≡ 0
value_none u f [] h = refl
value_none u f (e ∷ s) h =
    (elim (eqb u e.id) as (λ b. pick b 1 0 + times u s ≡ 0 → pick b (f e) 0 + sum (value_at u f) s ≡ 0)
    [ true ↦ λ h. absurd (omega arith) | false ↦ λ h. omega (arith, value_none u f s (omega arith)) ]) h

-- where it goes by the id
pub value_by_id : (g : ℕ → ℕ) (u : ℕ) (s : List Entry) → times u s ≡ 1 → sum (value_at u (λ e. g e.id)) s ≡ g u
value_by_id g u [] h = absurd (omega arith)
value_by_id g u (e ∷ s) h =
    (elim (eqb u e.id) as (λ b. eqb u e.id ≡ b → pick b 1 0 + times u s ≡ 1 → pick b (g e.id) 0 + sum (value_at u (λ e. g e.id)) s ≡ g u) [
      | true ↦ λ f h. let z : g e.id ≡ g u = ap g (sym (eqb-true u e.id f)) in omega (arith, value_none u (λ e. g e.id) s (omega arith))
      | false ↦ λ f h. omega (arith, value_by_id g u s (omega arith))
    ]) refl h

-- entries none of which has the id u, and one of which has it
without_none : (u : ℕ) (s : List Entry) → times u s ≡ 0 → without u s ≡ s
without_none u [] h = refl
without_none u (e ∷ s) h =
    (elim (eqb u e.id) as (λ b. pick b 1 0 + times u s ≡ 0 → cond b (without u s) (e ∷ without u s) ≡ e ∷ s)
    [ true ↦ λ h. absurd (omega arith) | false ↦ λ h. ap (λ t. e ∷ t) (without_none u s (omega arith)) ]) h

pub without_length : (u : ℕ) (s : List Entry) → times u s ≡ 1 → length (without u s) + 1 ≡ length s
without_length u [] h = absurd (omega arith)
without_length u (e ∷ s) h =
    (elim (eqb u e.id) as (λ b. pick b 1 0 + times u s ≡ 1 → length (cond b (without u s) (e ∷ without u s)) + 1 ≡ suc (length s))
    [ true ↦ λ h. rw (without_none u s (omega arith)) (omega arith) | false ↦ λ h. omega (arith, without_length u s (omega arith)) ]) h

module _ (u own base : ℕ) (f : Entry → ℕ) where
  placed_none : (next : ℕ) (s : List Entry) (column : List ℕ) → times u s ≡ 0
      → placed u own next base (map (λ e. e.id) s) (map f s) column ≡ sets column next (map (λ e. base + f e) s)
  unfolding placed
  placed_none next [] column h = refl
  placed_none next (e ∷ s) column h =
      (elim (eqb u e.id) as (λ b. pick b 1 0 + times u s ≡ 0
      → cond b (placed u own next base (map (λ e. e.id) s) (map f s) (set column own (base + f e))) (placed u own (suc next) base (map (λ e. e.id) s) (map f s) (set column next (base + f e)))
      ≡ sets (set column next (base + f e)) (suc next) (map (λ e. base + f e) s))
      [ true ↦ λ h. absurd (omega arith) | false ↦ λ h. placed_none (suc next) s (set column next (base + f e)) (omega arith) ]) h

  placed_one : (next : ℕ) (s : List Entry) (column : List ℕ) → own < next → times u s ≡ 1
      → placed u own next base (map (λ e. e.id) s) (map f s) column ≡ sets (set column own (base + sum (value_at u f) s)) next (map (λ e. base + f e) (without u s))
  unfolding placed
  placed_one next [] column h k = absurd (omega arith)
  placed_one next (e ∷ s) column h k =
      (elim (eqb u e.id) as (λ b. pick b 1 0 + times u s ≡ 1
      → cond b (placed u own next base (map (λ e. e.id) s) (map f s) (set column own (base + f e))) (placed u own (suc next) base (map (λ e. e.id) s) (map f s) (set column next (base + f e)))
      ≡ sets (set column own (base + (pick b (f e) 0 + sum (value_at u f) s))) next (map (λ e. base + f e) (cond b (without u s) (e ∷ without u s)))) [
        | true ↦ λ k.
            let n : times u s ≡ 0 = omega arith in
            let v : base + f e ≡ base + (f e + sum (value_at u f) s) = omega (arith, value_none u f s n) in
            placed_none next s (set column own (base + f e)) n ∙ ap₂ (λ x t. sets (set column own x) next (map (λ e. base + f e) t)) v (sym (without_none u s n))
        | false ↦ λ k.
            let v : base + sum (value_at u f) s ≡ base + (0 + sum (value_at u f) s) = omega arith in
            placed_one (suc next) s (set column next (base + f e)) (omega arith) (omega arith)
            ∙ ap (λ t. sets t (suc next) (map (λ e. base + f e) (without u s)))
            (set_comm column next own (base + f e) (base + sum (value_at u f) s) (λ z. omega (arith, z)) ∙ ap (λ x. set (set column own x) next (base + f e)) v)
      ]) k

-- the rows of columns, by one number of each
map_from : (c : Columns) (f : Row → ℕ) (s : List ℕ) (i m : ℕ) → i + m ≤ length s → ((k : ℕ) → i ≤ k → k < i + m → f (row_at c k) ≡ get_or s k 0)
    → map f (rows_from c i m) ≡ take m (drop i s)
unfolding rows_from
map_from c f s i zero h e = refl
map_from c f s i (suc m) h e =
    rw (drop-cons s i 0 (omega arith)) (ap₂ (λ x t. x ∷ t) (e i (omega arith) (omega arith)) (map_from c f s (suc i) m (omega arith) (λ k a b. e k (omega arith) (omega arith))))

pub map_rows : (c : Columns) (n : ℕ) (f : Row → ℕ) (s : List ℕ) → n ≤ length s → ((k : ℕ) → k < n → f (row_at c k) ≡ get_or s k 0) → map f (rows c n) ≡ take n s
map_rows c n f s h e = map_from c f s 0 n (omega arith) (λ k a b. e k (omega arith))

-- two rows of a table with distinct ids
one_place : (c : Columns) (n i j : ℕ) → some_pair same_id (rows c n) ≡ false → i < n → j < n → get_or c.id i 0 ≡ get_or c.id j 0 → i ≡ j
unfolding same_id
one_place c n i j d hi hj e =
    by_lt i j
    (λ h. absurd (true≢false (sym (pair_found c j n same_id hj (some_found c i j (λ v. same_id v (row_at c j)) h (eq-eqb _ _ e))) ∙ d)))
    (λ h. by_lt j i
    (λ k. absurd (true≢false (sym (pair_found c i n same_id hi (some_found c j i (λ v. same_id v (row_at c i)) k (eq-eqb _ _ (sym e)))) ∙ d)))
    (λ k. omega arith))

map_same : {A B : Type 0} (f g : A → B) (s : List A) → ((x : A) → f x ≡ g x) → map f s ≡ map g s
map_same f g [] h = refl
map_same f g (x ∷ s) h = ap₂ (λ y l. y ∷ l) (h x) (map_same f g s h)

-- one column of the table after an accepted request: `of` reads the column's number off a row, and `base + f e` is what an entry has there
module _ (c : Columns) (n own : ℕ) (a : Request) (is : get_or c.id own 0 ≡ a.exploded) (inside : own < n) (ids : some_pair same_id (rows c n) ≡ false)
    (once : times a.exploded (entries a) ≡ 1) (of : Row → ℕ) (column : List ℕ) (fits : n + length (entries a) ≤ length column + 1) (reads : (k : ℕ) → of (row_at c k) ≡ get_or column k 0)
    (base : ℕ) (f : Entry → ℕ) (others : (e : Entry) → of (row_for a (row_in a.exploded (rows c n)) e) ≡ base + f e)
    (own_row : of (row_for a (row_at c own) (entry_of a.exploded (entries a))) ≡ base + sum (value_at a.exploded f) (entries a)) where
  x : List ℕ
  x = set column own (base + sum (value_at a.exploded f) (entries a))

  kept_at : (k : ℕ) → k < n → of (kept_row a (row_at c k)) ≡ get_or x k 0
  unfolding x
  kept_at k h =
      by_eq k own
      (λ e. rw (e, eq-eqb a.exploded (get_or c.id own 0) (sym is)) (own_row ∙ sym (get_or-set_same column own _ 0 (omega (arith, without_length a.exploded (entries a) once)))))
      (λ e. rw (ne_eqb a.exploded (get_or c.id k 0) (λ z. e (one_place c n k own ids h inside (sym z ∙ sym is)))) (reads k ∙ sym (get_or-set_other column own k _ 0 e)))

  kept_column : map of (kept_rows a (rows c n)) ≡ take n x
  unfolding x
  kept_column =
      let m = length-set column own (base + sum (value_at a.exploded f) (entries a)) in
      map-map of (λ w. kept_row a w) (rows c n) ∙ map_rows c n (λ w. of (kept_row a w)) x (omega (arith, without_length a.exploded (entries a) once)) kept_at

  new_column : map of (new_rows a (rows c n)) ≡ map (λ e. base + f e) (without a.exploded (entries a))
  new_column = map-map of (row_for a (row_in a.exploded (rows c n))) (without a.exploded (entries a)) ∙ map_same _ (λ e. base + f e) (without a.exploded (entries a)) others

  pub column_after : placed a.exploded own n base (map (λ e. e.id) (entries a)) (map f (entries a)) column ≡ overlay (map of (refine_rows a (rows c n))) column
  unfolding refine_rows x
  column_after =
      let vs = map (λ e. base + f e) (without a.exploded (entries a)) in
      let m = length-set column own (base + sum (value_at a.exploded f) (entries a)) in
      let w = without_length a.exploded (entries a) once in
      let lv : length vs ≡ length (without a.exploded (entries a)) = length-map (without a.exploded (entries a)) (λ e. base + f e) in
      let lk : length (take n x) ≡ n = length-take-le n x (omega arith) in
      let all : map of (kept_rows a (rows c n) ++ new_rows a (rows c n)) ≡ take n x ++ vs = map-append of (kept_rows a (rows c n)) (new_rows a (rows c n)) ∙ ap₂ (λ y z. y ++ z) kept_column new_column in
      let count_all : length (take n x ++ vs) ≡ n + length vs = length-append (take n x) vs ∙ ap (λ y. y + length vs) lk in
      placed_one a.exploded own base f n (entries a) column inside once
      ∙ sets-eq vs x n (omega arith)
      ∙ ap (λ y. take n x ++ vs ++ y) (drop-set-lt (n + length vs) column own (base + sum (value_at a.exploded f) (entries a)) (omega arith))
      ∙ ap (λ y. (take n x ++ vs) ++ drop y column) (sym count_all)
      ∙ ap (λ y. y ++ drop (length y) column) (sym all)
