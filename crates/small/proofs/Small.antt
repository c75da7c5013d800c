-- The list of small requests has every one of them, nothing else, each before all that stand after it, and so nothing twice.
use mathlib.Core.Path.{◌≡◌, refl, sym, ◌∙◌, ap}
use mathlib.Core.Logic.{◌⊎◌, inl, inr, ◌≢◌}
use mathlib.Core.List.Memᴰ
use mathlib.Core.List.Lex
use mathlib.Core.List.Pairwise
use mathlib.Core.List.{List, [], ◌∷◌, map, append-nil, Memᴰ, Pairwise, Lex-prop, Lex-irrefl}
use Prim.Native.Nat.{ℕ, zero, suc, ◌≤◌, ◌<◌}
use native.Mathlib.Omega.{arith}
use native.Mathlib.Nat.{add-zero, lt_irrefl}
use lib.ListN.{length}
use Rattle.request.specs.Forest.{Forest, Direction, upright, inverted, pre_l}
use Rattle.request.specs.Request.{Request}
use Rattle.request.specs.Bytes.{tree_count, direction_number}
use Rattle.request.proofs.Numbering.{size_length}
use Rattle.request.proofs.Bytes.{count_some}
use Rattle.small.specs.Shapes.{child_counts, numbered, up_from, shapes, forest_of}
use Rattle.small.specs.Small.{Small, key, Before, request_for, small_of, small}
use Rattle.small.specs.Promise.{InOrder}
use Rattle.small.proofs.Lists.{up_in, in_up, up_ordered, flat_in, in_flat, ordered_append, ordered_flat, ordered_map}
use Rattle.small.proofs.Shapes.{Closes, forest_entries, forest_trees, forest_counts, counts_close, counts_length, forest_of_counts, closes_length, shapes_in, in_shapes, shapes_ordered}

pub numbered_length : (i n : ℕ) → length (numbered i n) ≡ n
numbered_length i zero = refl
numbered_length i (suc n) = omega (arith, numbered_length (suc i) n)

-- the requests of one direction with so many trees
abbrev pub with_trees : Direction → ℕ → ℕ → List Request
with_trees d n trees = map (request_for d) (shapes n trees)

-- ## Complete

of_direction : (d : Direction) (n : ℕ) (t : Forest) → 1 ≤ n → pre_l t ≡ numbered 1 n → Memᴰ (request_for d (child_counts t)) (small_of d n)
unfolding small_of
of_direction d n t some h =
    let l : length (pre_l t) ≡ n = ap length h ∙ numbered_length 1 n in
    let m = counts_length t in
    let c : Closes (tree_count t) (child_counts t) = rw (append-nil, add-zero) at (counts_close t 0 [] tt) in
    flat_in (with_trees d n) (up_from 1 n)
    (up_in (tree_count t) 1 n (count_some t (omega (arith, size_length t))) (omega (arith, closes_length (tree_count t) (child_counts t) c)))
    (Memᴰ.map (request_for d) (shapes_in n (tree_count t) (child_counts t) (omega arith) c))

either : (d : Direction) (n : ℕ) (q : Request) → Memᴰ q (small_of d n) → Memᴰ q (small n)
unfolding small
either upright n q m = Memᴰ.append_left (small_of inverted n) m
either inverted n q m = Memᴰ.append_right (small_of upright n) m

same_request : (q : Request) (t : Forest) → q.exploded ≡ 1 → t ≡ q.trees → record { exploded = 1; direction = q.direction; trees = t } ≡ q
same_request q t e f = rw (← e, f)

complete : (n : ℕ) (q : Request) → Small n q → Memᴰ q (small n)
complete n q h =
    let e = forest_of_counts q.trees n h.entries in
    let m = either q.direction n _ (of_direction q.direction n q.trees h.some h.entries) in
    rw (same_request q (forest_of 1 (child_counts q.trees)) h.exploded e) at m

-- ## Nothing else

-- one that stands in the list of a direction is the request of some child counts
pub of_small : (d : Direction) (n : ℕ) (q : Request) → Memᴰ q (small_of d n)
    → (due : ℕ) × (s : List ℕ) × (1 ≤ due) × (due ≤ n) × (length s ≡ n) × Closes due s × (q ≡ request_for d s)
unfolding small_of
of_small d n q m =
    let r = in_flat (with_trees d n) (up_from 1 n) m in
    let u = in_up r.0 1 n r.1 in
    let b = Memᴰ.of_map (request_for d) (shapes n r.0) r.2 in
    let w = in_shapes n r.0 b.0 b.1 in
    (r.0, b.0, u.0, omega arith, w.0, w.1, sym b.2)

small_of_lem : (d : Direction) (n : ℕ) (q : Request) → Memᴰ q (small_of d n) → Small n q
small_of_lem d n q m =
    let r = of_small d n q m in
    record {
      some = omega arith;
      exploded = ap (λ (p : Request). p.exploded) r.6;
      entries = ap (λ (p : Request). pre_l p.trees) r.6 ∙ forest_entries 1 r.1 ∙ ap (numbered 1) r.4;
    }

-- the direction of one that stands in the list
pub of_either : (n : ℕ) (q : Request) → Memᴰ q (small n) → (d : Direction) × Memᴰ q (small_of d n)
unfolding small
of_either n q m = go (Memᴰ.append_cases (small_of upright n) m)
  where
    go : Memᴰ q (small_of upright n) ⊎ Memᴰ q (small_of inverted n) → (d : Direction) × Memᴰ q (small_of d n)
    go (inl a) = (upright, a)
    go (inr b) = (inverted, b)

pub only : (n : ℕ) (q : Request) → Memᴰ q (small n) → Small n q
only n q m = let r = of_either n q m in small_of_lem r.0 n q r.1

-- ## In order

before_prop : (p q : Request) → IsProp (Before p q)
before_prop p q = Lex-prop

key_of : (d : Direction) (due : ℕ) (s : List ℕ) → Closes due s → key (request_for d s) ≡ direction_number d ∷ due ∷ s
key_of d due s c = rw (forest_trees 1 due s c, forest_counts 1 due s c)

-- one direction and tree count: the smaller child counts first
of_trees_lem : (d : Direction) (n due : ℕ) → Pairwise Before (with_trees d n due)
of_trees_lem d n due =
    ordered_map before_prop (request_for d) (shapes n due)
    (λ s t a b l. rw (key_of d due s (in_shapes n due s a).1, key_of d due t (in_shapes n due t b).1) (Lex.cons (Lex.cons l)))
    (shapes_ordered n due)

-- one direction: the smaller tree count first
in_direction : (d : Direction) (n : ℕ) → Pairwise Before (small_of d n)
unfolding small_of
in_direction d n =
    ordered_flat before_prop (with_trees d n) (up_from 1 n) (up_ordered 1 n) (of_trees_lem d n)
    (λ i j p q l a b.
    let x = Memᴰ.of_map (request_for d) (shapes n i) a in
    let y = Memᴰ.of_map (request_for d) (shapes n j) b in
    rw (← x.2, ← y.2, key_of d i x.0 (in_shapes n i x.0 x.1).1, key_of d j y.0 (in_shapes n j y.0 y.1).1) (Lex.cons (Lex.rel l)))

-- upright before inverted
ordered : (n : ℕ) → Pairwise Before (small n)
unfolding small
ordered n =
    ordered_append before_prop (small_of upright n) (small_of inverted n) (in_direction upright n) (in_direction inverted n)
    (λ p q a b.
    let x = of_small upright n p a in
    let y = of_small inverted n q b in
    let less : 0 < 1 = omega arith in
    rw (x.6, y.6) (Lex.rel less))

-- nothing comes before itself
apart : (p q : Request) → Before p q → p ≢ q
apart p q b e = Lex-irrefl lt_irrefl (key q) (rw e at b)

-- ## The promise

pub in_order : (n : ℕ) → InOrder n
in_order n = record { complete = complete n; only = only n; ordered = ordered n; once = Pairwise.imp apart (ordered n) }
