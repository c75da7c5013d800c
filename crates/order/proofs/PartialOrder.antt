-- On a sound table the order of groups is a partial order.
use mathlib.Core.Path.{◌≡◌, refl, ap, sym, ◌∙◌}
use mathlib.Core.Bool.{Bool, true, false, cond}
use Prim.Native.Nat.{ℕ, zero, suc, ◌+◌, ◌≤◌, ◌<◌}
use native.Mathlib.Omega.{arith}
use lib.Dec.{eqb, leb}
use lib.ListN.{get_or}
use borrow.Author.Tests.{eqb-false, leb-true, eq-eqb, ne_eqb, le-leb}
use Rattle.rules.specs.Answers.{Answer, answer, refused, then}
use Rattle.rules.proofs.Answers.{same_answer, never_refused}
use Rattle.rules.proofs.Bools.{and_both}
use Rattle.rules.proofs.Cases.{by_lt}
use Rattle.table.specs.Columns.{Columns, row_at, rows_from, rows}
use Rattle.table.specs.declared.Row.{Row}
use Rattle.order.specs.Order.{subgroup, order_by, compare, row_of, order_in}
use Rattle.order.specs.declared.Ordered.{Ordered}
use Rattle.order.specs.declared.Ordered.TheVariants.{Same, First, Second}
use Rattle.table.specs.Sound.{Sound}
use Rattle.table.proofs.Soundness.{not_so}
use Rattle.order.proofs.Finding.{row_there}

-- g is a subgroup of h
abbrev pub Under : Row → Row → Type 0
Under g h = subgroup g.l g.r h.l h.r ≡ true

under : (g h : Row) → g.l ≤ h.l → g.r ≤ h.r → Under g h
unfolding subgroup
under g h l r = rw (le-leb _ _ l, le-leb _ _ r)

parts : (g h : Row) → Under g h → (g.l ≤ h.l) × (g.r ≤ h.r)
unfolding subgroup
parts g h e = let b = and_both (leb g.l h.l) _ e in (leb-true _ _ b.0, leb-true _ _ b.1)

pub subgroup_refl : (g : Row) → Under g g
subgroup_refl g = under g g (omega arith) (omega arith)

pub subgroup_trans : (g h k : Row) → Under g h → Under h k → Under g k
subgroup_trans g h k e f = let a = parts g h e in let b = parts h k f in under g k (omega arith) (omega arith)

module _ (c : Columns) (count : ℕ) (s : Sound c count) where
  -- two rows are never each a subgroup of the other
  apart_rows : (i j : ℕ) → i < j → j < count → Under (row_at c i) (row_at c j) → Under (row_at c j) (row_at c i) → ⊥
  apart_rows i j h k e f =
      let a = parts (row_at c i) (row_at c j) e in
      let b = parts (row_at c j) (row_at c i) f in
      let u = (s.row i (omega arith)).q_some in
      let v = (s.row j k).q_some in
      (s.pair i j h k).l_ranges (get_or c.l i 0) (omega arith, omega arith) (omega arith, omega arith)

  -- each a subgroup of the other: one row
  pub subgroup_antisym : (i j : ℕ) → i < count → j < count → Under (row_at c i) (row_at c j) → Under (row_at c j) (row_at c i) → i ≡ j
  subgroup_antisym i j h k e f =
      by_lt i j (λ l. absurd (apart_rows i j l k e f)) (λ m. by_lt j i (λ l. absurd (apart_rows j i l h f e)) (λ n. omega arith))

  -- a group of the table is found by its id
  pub row_found_lem : (i : ℕ) → i < count → row_of (rows c count) (get_or c.id i 0) ≡ answer (row_at c i)
  row_found_lem i h =
      row_there c count (get_or c.id i 0) (record { most = omega arith; there = λ _. refl; before = λ k l. (s.pair k i l h).ids }) h

-- what an answer says of the tests, and what the tests give
never : {C : Type 0} → ◌≡◌ {A = ℕ} 0 1 → C
never e = let f : ⊥ = omega arith in absurd f

is_first : (one up down : Bool) → order_by one up down ≡ First → (one ≡ false) × (up ≡ true)
unfolding order_by
is_first true up down e = never (cc)
is_first false true down e = (refl, refl)
is_first false false true e = never (cc)
is_first false false false e = never (cc)

is_second : (one up down : Bool) → order_by one up down ≡ Second → (one ≡ false) × (down ≡ true)
unfolding order_by
is_second true up down e = never (cc)
is_second false true down e = never (cc)
is_second false false true e = (refl, refl)
is_second false false false e = never (cc)

gives_first : (one up down : Bool) → one ≡ false → up ≡ true → order_by one up down ≡ First
unfolding order_by
gives_first one up down e f = rw (e, f)

gives_second : (one up down : Bool) → one ≡ false → up ≡ false → down ≡ true → order_by one up down ≡ Second
unfolding order_by
gives_second one up down e f g = rw (e, f, g)

-- a row that is found is a row of the table
abbrev Among : Columns → ℕ → Row → Type 0
Among c n g = (j : ℕ) × ((j < n) × (g ≡ row_at c j))

among_step : (c : Columns) (i n : ℕ) {g : Row} {x : Answer Row} (t : Bool) → cond t (answer (row_at c i)) x ≡ answer g → i < n → (x ≡ answer g → Among c n g) → Among c n g
among_step c i n true e h more = (i, (h, sym (same_answer e)))
among_step c i n false e h more = more e

found_among : (c : Columns) (a i m n : ℕ) {g : Row} → i + m ≡ n → row_of (rows_from c i m) a ≡ answer g → Among c n g
unfolding row_of rows_from
found_among c a i zero n h e = never_refused e
found_among c a i (suc m) n h e =
    among_step c i n (eqb (get_or c.id i 0) a) e (omega arith) (found_among c a (suc i) m n (omega arith))

-- an order that is answered, and the two rows that it compares
record Asked (c : Columns) (count a b : ℕ) (o : Ordered) : Type 0 where
  g : Row
  h : Row
  g_found : row_of (rows c count) a ≡ answer g
  h_found : row_of (rows c count) b ≡ answer h
  g_in : Among c count g
  h_in : Among c count h
  says : compare g h ≡ o

asked : (c : Columns) (count a b : ℕ) {o : Ordered} → order_in (rows c count) a b ≡ answer o → Asked c count a b o
unfolding order_in
asked c count a b {o} e = go (row_of (rows c count) a) (row_of (rows c count) b) refl refl e
  where
    go : (x y : Answer Row) → row_of (rows c count) a ≡ x → row_of (rows c count) b ≡ y
        → then x (λ g. then y λ h. answer (compare g h)) ≡ answer o → Asked c count a b o
    go (answer g) (answer h) u v k =
        record {
          g = g;
          h = h;
          g_found = u;
          h_found = v;
          g_in = found_among c a 0 count count (omega arith) u;
          h_in = found_among c b 0 count count (omega arith) v;
          says = same_answer k;
        }
    go (answer g) (refused n) u v k = never_refused k
    go (refused n) y u v k = never_refused k

turned : (c : Columns) (count a b : ℕ) {o : Ordered} (k : Asked c count a b o) → order_in (rows c count) b a ≡ answer (compare k.h k.g)
unfolding order_in
turned c count a b k = rw (k.h_found, k.g_found)

module _ (c : Columns) (count : ℕ) where
  -- a group of the table is the same as itself
  pub order_refl : (a : ℕ) {g : Row} → row_of (rows c count) a ≡ answer g → order_in (rows c count) a a ≡ answer Same
  unfolding order_in order_by
  order_refl a {g} e = rw (e, eq-eqb g.id g.id refl)

  -- the two ids exchanged; the other way round, `first_second`, only in a sound table
  pub second_first : (a b : ℕ) → order_in (rows c count) a b ≡ answer Second → order_in (rows c count) b a ≡ answer First
  second_first a b e =
      let k = asked c count a b e in
      let t = is_second _ _ _ k.says in
      let n : k.h.id ≡ k.g.id → ⊥ = λ f. eqb-false _ _ t.0 (sym f) in
      turned c count a b k ∙ ap answer (gives_first _ _ _ (ne_eqb _ _ n) t.1)

  module _ (s : Sound c count) where
    not_both : {g h : Row} → Among c count g → Among c count h → (g.id ≡ h.id → ⊥) → Under g h → Under h g → ⊥
    not_both (i, (u, e)) (j, (v, f)) n x y =
        n (ap (λ (w : Row). w.id) (e ∙ ap (row_at c) (subgroup_antisym c count s i j u v (rw (e, f) at x) (rw (f, e) at y)) ∙ sym f))

    one_id : (i j : ℕ) → i < count → j < count → get_or c.id i 0 ≡ get_or c.id j 0 → i ≡ j
    one_id i j h k e =
        by_lt i j (λ l. absurd ((s.pair i j l k).ids e)) (λ m. by_lt j i (λ l. absurd ((s.pair j i l h).ids (sym e))) (λ n. omega arith))

    one_row : {g h : Row} → Among c count g → Among c count h → g.id ≡ h.id → g ≡ h
    one_row (i, (u, e)) (j, (v, f)) n = e ∙ ap (row_at c) (one_id i j u v (rw (e, f) at n)) ∙ sym f

    strict : {g h k : Row} → Among c count g → Among c count h → Among c count k → (g.id ≡ h.id → ⊥) → Under g h → Under h k → g.id ≡ k.id → ⊥
    strict x y z n up on i = not_both x y n up (rw (← one_row x z i) at on)

    pub order_self : (i : ℕ) → i < count → order_in (rows c count) (get_or c.id i 0) (get_or c.id i 0) ≡ answer Same
    order_self i h = order_refl (get_or c.id i 0) (row_found_lem c count s i h)

    pub first_second : (a b : ℕ) → order_in (rows c count) a b ≡ answer First → order_in (rows c count) b a ≡ answer Second
    first_second a b e =
        let k = asked c count a b e in
        let t = is_first _ _ _ k.says in
        let m = eqb-false _ _ t.0 in
        let n : k.h.id ≡ k.g.id → ⊥ = λ f. m (sym f) in
        turned c count a b k ∙ ap answer (gives_second _ _ _ (ne_eqb _ _ n) (not_so _ (not_both k.g_in k.h_in m t.1)) t.1)

    -- a subgroup of a subgroup
    pub first_trans : (a b d : ℕ) → order_in (rows c count) a b ≡ answer First → order_in (rows c count) b d ≡ answer First
        → order_in (rows c count) a d ≡ answer First
    unfolding order_in
    first_trans a b d e f =
        let k = asked c count a b e in
        let m = asked c count b d f in
        let t = is_first _ _ _ k.says in
        let u = is_first _ _ _ m.says in
        let same_row : m.g ≡ k.h = same_answer (sym m.g_found ∙ k.h_found) in
        let up : Under k.h m.h = rw same_row at u.1 in
        let n = strict k.g_in k.h_in m.h_in (eqb-false _ _ t.0) t.1 up in
        rw (k.g_found, m.h_found) (ap answer (gives_first _ _ _ (ne_eqb _ _ n) (subgroup_trans k.g k.h m.h t.1 up)))
