-- The ids of a tree's nodes, side by side, are those of its groups.
use mathlib.Core.Path.{◌≡◌, refl, ap, ap₂, sym, ◌∙◌}
use mathlib.Core.Bool.{Bool, true, false, not, true≢false}
use mathlib.Core.List.{List, [], ◌∷◌, ◌++◌}
use Prim.Native.Nat.{ℕ, zero, suc, ◌+◌, ◌≤◌, ◌<◌}
use native.Mathlib.Omega.{arith}
use lib.Dec.{eqb, leb}
use lib.ListN.{length, take, set, get_or, length-set}
use borrow.Author.Tests.{eq-eqb, ne_eqb, not-true, lt-leb, leb-false}
use Rattle.std.proofs.lemmas.List.{take_more, take_more_set, flat_map_more, append_assoc}
use Rattle.std.specs.List.{flat_map}
use Rattle.std.proofs.lemmas.List.Concat.{flat_map-append}
use Rattle.rules.proofs.Bools.{and_both}
use Rattle.rules.proofs.Cases.{by_eq, by_lt}
use Rattle.request.specs.Entries.{Entry, entry, one_at, sum, times, some_entry}
use Rattle.request.proofs.Sums.{count_head}
use Rattle.request.proofs.Accepting.{some_none}
use Rattle.distinct.specs.Distinct.{none_is, all_differ}
use Rattle.reflected_tree.specs.Reflected.{Reflected, empty, node, lower_of, node_count, groups}
use Rattle.reflected_tree.specs.Reading.{id_repeats}
use Rattle.reflected_tree.proofs.Groups.{parts}
use Rattle.reflected.specs.declared.nodes.Node.{Node}
use Rattle.reflected.specs.Inside.Nodes.{child_count, stored, Holds}

-- the ids of a node: its upper id, and an inner node's lower one
abbrev pub lower_in : ℕ → ℕ → List ℕ
lower_in zero l = []
lower_in (suc n) l = l ∷ []

abbrev pub own_ids : Node → List ℕ
own_ids n = n.upper ∷ lower_in n.children n.lower

-- ids as groups, to count them
abbrev units : List ℕ → List Entry
units [] = []
units (y ∷ s) = entry y 1 ∷ units s

units_append : (f : Entry → ℕ) (s t : List ℕ) → sum f (units (s ++ t)) ≡ sum f (units s) + sum f (units t)
units_append f [] t = omega arith
units_append f (y ∷ s) t = omega (arith, units_append f s t)

lower_units : (f : Entry → ℕ) (l : ℕ) (c : Reflected) → sum f (units (lower_in (child_count c) l)) ≡ sum f (lower_of l c)
lower_units f l empty = refl
lower_units f l (node u m c r) = refl

ids_groups : (f : Entry → ℕ) (i : ℕ) (t : Reflected) → sum f (units (flat_map own_ids (stored i t))) ≡ sum f (groups t)
ids_groups f i empty = refl
ids_groups f i (node u l c r) =
    let s = stored (i + 1) c in
    let t = stored (i + 1 + node_count c) r in
    let a : sum f (units (flat_map own_ids (s ++ t))) ≡ sum f (groups c) + sum f (groups r) =
    ap (λ v. sum f (units v)) (flat_map-append own_ids s t)
    ∙ units_append f (flat_map own_ids s) (flat_map own_ids t)
    ∙ ap₂ (λ m n. m + n) (ids_groups f (i + 1) c) (ids_groups f (i + 1 + node_count c) r) in
    omega (
      arith,
      a,
      lower_units f l c,
      units_append f (lower_in (child_count c) l) (flat_map own_ids (s ++ t)),
      parts f u l c r,
    )

-- ## Ids that come once at most differ

none_times : (x : ℕ) (s : List ℕ) → none_is x s ≡ true → times x (units s) ≡ 0
unfolding none_is
none_times x [] h = refl
none_times x (y ∷ s) h =
    let b = and_both (not (eqb x y)) (none_is x s) h in
    rw (not-true (eqb x y) b.0) (omega (arith, none_times x s b.1))

differ_times : (x : ℕ) (s : List ℕ) → all_differ s ≡ true → times x (units s) ≤ 1
unfolding all_differ
differ_times x [] h = omega arith
differ_times x (y ∷ s) h =
    let b = and_both (none_is y s) (all_differ s) h in
    by_eq x y
    (λ e. let n : times x (units s) ≡ 0 = rw e (none_times y s b.0) in rw (eq-eqb x y e) (omega arith))
    (λ e. rw (ne_eqb x y e) (omega (arith, differ_times x s b.1)))

times_none : (x : ℕ) (s : List ℕ) → times x (units s) ≡ 0 → none_is x s ≡ true
unfolding none_is
times_none x [] h = refl
times_none x (y ∷ s) h =
    by_eq x y
    (λ e. absurd (omega (arith, rw (eq-eqb x y e) at h)))
    (λ e. rw (ne_eqb x y e) (times_none x s (omega (arith, rw (ne_eqb x y e) at h))))

times_differ : (s : List ℕ) → ((x : ℕ) → times x (units s) ≤ 1) → all_differ s ≡ true
unfolding all_differ
times_differ [] h = refl
times_differ (y ∷ s) h = rw (times_none y s (omega (arith, rw (eq-eqb y y refl) at (h y)))) (times_differ s (λ x. omega (arith, h x)))

-- a test of ids that fails at each entry
none_some : (p : ℕ → Bool) (s : List Entry) → ((x : ℕ) → 1 ≤ times x s → p x ≡ false) → some_entry (λ e. p e.id) s ≡ false
unfolding some_entry
none_some p [] h = refl
none_some p (e ∷ s) h = rw (h e.id (count_head e.id s)) (none_some p s (λ x k. h x (omega arith)))

-- ## An id repeats where the ids do not differ

module _ (ids : List ℕ) (t : Reflected) (same : (x : ℕ) → times x (units ids) ≡ times x (groups t)) where
  twice : ℕ → Bool
  twice x = leb 2 (times x (groups t))

  once : id_repeats t ≡ false → (x : ℕ) → times x (units ids) ≤ 1
  unfolding id_repeats twice
  once h x = by_lt 1 (times x (groups t)) (λ k. absurd (omega (arith, leb-false 2 (times x (groups t)) (some_none twice (groups t) x h (omega arith))))) (λ k. omega (arith, same x))

  repeats : not (all_differ ids) ≡ id_repeats t
  unfolding id_repeats twice
  repeats = go (all_differ ids) refl (id_repeats t) refl
    where
      go : (a : Bool) → all_differ ids ≡ a → (b : Bool) → id_repeats t ≡ b → not a ≡ b
      go true d b e = sym (none_some twice (groups t) (λ x k. lt-leb 2 (times x (groups t)) (omega (arith, differ_times x ids d, same x)))) ∙ e
      go false d true e = refl
      go false d false e = absurd (true≢false (sym (times_differ ids (once e)) ∙ d))

-- the ids of the nodes that stand in the first places
pub held_repeats : (nodes : List Node) (n : ℕ) (t : Reflected) → Holds nodes t → node_count t ≡ n → not (all_differ (flat_map own_ids (take n nodes))) ≡ id_repeats t
held_repeats nodes n t h e =
    let s : flat_map own_ids (take n nodes) ≡ flat_map own_ids (stored 0 t) = ap (flat_map own_ids) (ap (λ k. take k nodes) (sym e) ∙ h) in
    repeats (flat_map own_ids (take n nodes)) t (λ x. ap (λ v. times x (units v)) s ∙ ids_groups (one_at x) 0 t)

-- ## The loop

lower_some : (n l : ℕ) → 0 < n → lower_in n l ≡ l ∷ []
lower_some zero l h = absurd (omega arith)
lower_some (suc n) l h = refl

lower_none : (n l : ℕ) → n ≤ 0 → lower_in n l ≡ []
lower_none zero l h = refl
lower_none (suc n) l h = absurd (omega arith)

module _ (s : List Node) (i n : ℕ) (w : List ℕ) (d : Node) (at : i < length s) (is : take n w ≡ flat_map own_ids (take i s)) where
  own_more : {v : List ℕ} → v ≡ take n w ++ own_ids (get_or s i d) → v ≡ flat_map own_ids (take (i + 1) s)
  own_more e = e ∙ ap (λ u. u ++ own_ids (get_or s i d)) is ∙ flat_map_more own_ids [] (take i s) (get_or s i d) ∙ ap (flat_map own_ids) (sym (take_more s i d at))

  -- a leaf's upper id
  pub leaf_more : n < length w → (get_or s i d).children ≤ 0 → take (n + 1) (set w n (get_or s i d).upper) ≡ flat_map own_ids (take (i + 1) s)
  leaf_more l z =
      let x = get_or s i d in
      own_more (take_more_set w n x.upper l ∙ ap (λ u. take n w ++ x.upper ∷ u) (sym (lower_none x.children x.lower z)))

  -- an inner node's two ids
  pub inner_more : n + 1 < length w → 0 < (get_or s i d).children
      → take (n + 1 + 1) (set (set w n (get_or s i d).upper) (n + 1) (get_or s i d).lower) ≡ flat_map own_ids (take (i + 1) s)
  inner_more l z =
      let x = get_or s i d in
      own_more (
      take_more_set (set w n x.upper) (n + 1) x.lower (omega (arith, length-set w n x.upper))
      ∙ ap (λ u. u ++ x.lower ∷ []) (take_more_set w n x.upper (omega arith))
      ∙ append_assoc (take n w) (x.upper ∷ []) (x.lower ∷ [])
      ∙ ap (λ u. take n w ++ x.upper ∷ u) (sym (lower_some x.children x.lower z))
      )
