-- Child counts and trees say the same: each way round gives back what it was given. And which child counts stand in the list of them.
use mathlib.Core.Path.{◌≡◌, refl, ◌∙◌, ap}
use mathlib.Core.List.Memᴰ
use mathlib.Core.List.{List, [], ◌∷◌, ◌++◌, map, append_assoc, append-nil, Memᴰ}
use mathlib.Core.List.Lex
use mathlib.Core.List.{Pairwise, Lex, Lex-prop, Pairwise-singleton}
use Prim.Native.Nat.{ℕ, zero, suc, ◌+◌, ◌-◌, ◌≤◌, ◌<◌}
use native.Mathlib.Omega.{arith}
use native.Mathlib.Nat.{zero-add, suc-add, add-zero, sub-zero}
use lib.ListN.{length, length-append}
use Rattle.request.specs.Entries.{Entry, entry}
use Rattle.request.specs.Forest.{Forest, none, tree, pre_l}
use Rattle.request.specs.Numbering.{size}
use Rattle.request.specs.Bytes.{tree_count}
use Rattle.small.specs.Shapes.{child_counts, numbered, up_from, shapes, first_trees, other_trees, over, forest_of}
use Rattle.small.proofs.Lists.{up_in, up_ordered, flat_in, in_flat, ordered_flat, ordered_map}

-- ## Trees cut in two

cut_entries : (k : ℕ) (t : Forest) → pre_l (first_trees k t) ++ pre_l (other_trees k t) ≡ pre_l t
cut_entries zero t = refl
cut_entries (suc k) none = refl
cut_entries (suc k) (tree e c r) = rw (append_assoc, cut_entries k r)

cut_counts : (k : ℕ) (t : Forest) → child_counts (first_trees k t) ++ child_counts (other_trees k t) ≡ child_counts t
cut_counts zero t = refl
cut_counts (suc k) none = refl
cut_counts (suc k) (tree e c r) = rw (append_assoc, cut_counts k r)

pub cut_first : (k : ℕ) (t : Forest) → k ≤ tree_count t → tree_count (first_trees k t) ≡ k
cut_first zero t h = refl
cut_first (suc k) none h = absurd (omega arith)
cut_first (suc k) (tree e c r) h = omega (arith, cut_first k r (omega arith))

cut_other : (k : ℕ) (t : Forest) → k ≤ tree_count t → tree_count (other_trees k t) + k ≡ tree_count t
cut_other zero t h = omega arith
cut_other (suc k) none h = absurd (omega arith)
cut_other (suc k) (tree e c r) h = omega (arith, cut_other k r (omega arith))

-- trees beside trees
beside : Forest → Forest → Forest
beside none u = u
beside (tree e c r) u = tree e c (beside r u)

first_beside : (t u : Forest) → first_trees (tree_count t) (beside t u) ≡ t
unfolding beside
first_beside none u = refl
first_beside (tree e c r) u = rw (first_beside r u)

other_beside : (t u : Forest) → other_trees (tree_count t) (beside t u) ≡ u
unfolding beside
other_beside none u = refl
other_beside (tree e c r) u = other_beside r u

beside_none : (t : Forest) → beside t none ≡ t
unfolding beside
beside_none none = refl
beside_none (tree e c r) = rw (beside_none r)

over_beside : (i : ℕ) (c u : Forest) → over i (tree_count c) (beside c u) ≡ tree (entry i 1) c u
over_beside i c u = rw (first_beside c u, other_beside c u)

-- ## Child counts that so many trees have

-- the counts are those of `due` trees: each entry is one of them, and its children are due after it
abbrev pub Closes : ℕ → List ℕ → Type 0
Closes zero [] = Unit {0}
Closes (suc due) [] = ⊥
Closes zero (k ∷ s) = ⊥
Closes (suc due) (k ∷ s) = Closes (due + k) s

-- the entries of the trees of some child counts
pub forest_entries : (i : ℕ) (s : List ℕ) → pre_l (forest_of i s) ≡ numbered i (length s)
forest_entries i [] = refl
forest_entries i (k ∷ s) = rw (cut_entries k (forest_of (suc i) s), forest_entries (suc i) s)

pub forest_trees : (i due : ℕ) (s : List ℕ) → Closes due s → tree_count (forest_of i s) ≡ due
forest_trees i zero [] h = refl
forest_trees i (suc due) [] h = absurd h
forest_trees i zero (k ∷ s) h = absurd h
forest_trees i (suc due) (k ∷ s) h =
    let e = forest_trees (suc i) (due + k) s h in
    omega (arith, cut_other k (forest_of (suc i) s) (omega arith))

pub forest_counts : (i due : ℕ) (s : List ℕ) → Closes due s → child_counts (forest_of i s) ≡ s
forest_counts i zero [] h = refl
forest_counts i (suc due) [] h = absurd h
forest_counts i zero (k ∷ s) h = absurd h
forest_counts i (suc due) (k ∷ s) h =
    let e = forest_trees (suc i) (due + k) s h in
    rw (cut_first k (forest_of (suc i) s) (omega arith), cut_counts k (forest_of (suc i) s), forest_counts (suc i) (due + k) s h)

-- the child counts of trees, and then of those beside them
pub counts_close : (t : Forest) (due : ℕ) (s : List ℕ) → Closes due s → Closes (tree_count t + due) (child_counts t ++ s)
counts_close none due s h = rw zero-add h
counts_close (tree e c r) due s h =
    rw (append_assoc, suc-add)
    (let a = counts_close c (tree_count r + due) (child_counts r ++ s) (counts_close r due s h) in
    let n : tree_count c + (tree_count r + due) ≡ tree_count r + due + tree_count c = omega arith in
    rw n at a)

pub counts_length : (t : Forest) → length (child_counts t) ≡ length (pre_l t)
counts_length none = refl
counts_length (tree e c r) = simp length-append (omega (arith, counts_length c, counts_length r))

-- trees with ids from i upward and quota 1 each are those of their child counts
rebuilt : (t : Forest) (i n : ℕ) (s : List Entry) (w : List ℕ) → pre_l t ++ s ≡ numbered i n
    → (forest_of i (child_counts t ++ w) ≡ beside t (forest_of (i + size t) w)) × (s ≡ numbered (i + size t) (n - size t))
unfolding beside
rebuilt none i n s w h = (rw add-zero, rw (add-zero, sub-zero) h)
rebuilt (tree e c r) i zero s w h = let z : ◌≡◌ {A = ℕ} 0 1 = cc in absurd (omega arith)
rebuilt (tree e c r) i (suc n) s w h =
    let first : e ≡ entry i 1 = cc in
    let rest : pre_l c ++ pre_l r ++ s ≡ numbered (suc i) n = cc in
    let inside = rebuilt c (suc i) n (pre_l r ++ s) (child_counts r ++ w) (rw append_assoc at rest) in
    let right = rebuilt r (suc i + size c) (n - size c) s w inside.1 in
    let at : suc i + size c + size r ≡ i + suc (size c + size r) = omega arith in
    let left : n - size c - size r ≡ suc n - suc (size c + size r) = omega arith in
    let below : forest_of (suc i) (child_counts c ++ child_counts r ++ w) ≡ beside c (beside r (forest_of (i + suc (size c + size r)) w)) =
    rw (append_assoc, inside.0, right.0, at) in (
      rw first (ap (over i (tree_count c)) below ∙ over_beside i c _),
      rw (at, left) at right.1,
    )

pub forest_of_counts : (t : Forest) (n : ℕ) → pre_l t ≡ numbered 1 n → forest_of 1 (child_counts t) ≡ t
forest_of_counts t n h =
    let r = rebuilt t 1 n [] [] (rw append-nil h) in
    rw append-nil at r.0 ∙ beside_none t

-- ## The list of child counts

-- every due tree has an entry
pub closes_length : (due : ℕ) (s : List ℕ) → Closes due s → due ≤ length s
closes_length zero [] h = omega arith
closes_length (suc due) [] h = absurd h
closes_length zero (k ∷ s) h = absurd h
closes_length (suc due) (k ∷ s) h = omega (arith, closes_length (due + k) s h)

-- the child counts that begin with k
abbrev beginning : (n due : ℕ) → ℕ → List (List ℕ)
beginning n due k = map (λ s. k ∷ s) (shapes n (due + k))

pub shapes_in : (n due : ℕ) (s : List ℕ) → length s ≡ n → Closes due s → Memᴰ s (shapes n due)
unfolding shapes
shapes_in zero zero [] e h = Memᴰ.head refl
shapes_in zero (suc due) [] e h = absurd h
shapes_in (suc n) zero [] e h = absurd (omega arith)
shapes_in (suc n) (suc due) [] e h = absurd h
shapes_in zero zero (k ∷ s) e h = absurd h
shapes_in zero (suc due) (k ∷ s) e h = absurd (omega arith)
shapes_in (suc n) zero (k ∷ s) e h = absurd h
shapes_in (suc n) (suc due) (k ∷ s) e h =
    flat_in (beginning n due) (up_from 0 (suc n)) (up_in k 0 (suc n) (omega arith) (omega (arith, closes_length (due + k) s h)))
    (Memᴰ.map (λ w. k ∷ w) (shapes_in n (due + k) s (omega arith) h))

pub in_shapes : (n due : ℕ) (s : List ℕ) → Memᴰ s (shapes n due) → (length s ≡ n) × Closes due s
unfolding shapes
in_shapes zero zero s m = rw (Memᴰ.eq_of_singleton m) (refl, tt)
in_shapes zero (suc due) s m = absurd (Memᴰ.not-nil m)
in_shapes (suc n) zero s m = absurd (Memᴰ.not-nil m)
in_shapes (suc n) (suc due) s m =
    let r = in_flat (beginning n due) (up_from 0 (suc n)) m in
    let b = Memᴰ.of_map (λ w. r.0 ∷ w) (shapes n (due + r.0)) r.2 in
    let t = in_shapes n (due + r.0) b.0 b.1 in
    rw (← b.2) (omega arith, t.1)

less_prop : (s t : List ℕ) → IsProp (Lex ◌<◌ s t)
less_prop s t = Lex-prop

pub shapes_ordered : (n due : ℕ) → Pairwise (Lex ◌<◌) (shapes n due)
unfolding shapes
shapes_ordered zero zero = Pairwise-singleton (Lex ◌<◌) []
shapes_ordered zero (suc due) = Pairwise.nil
shapes_ordered (suc n) zero = Pairwise.nil
shapes_ordered (suc n) (suc due) =
    ordered_flat less_prop (beginning n due) (up_from 0 (suc n)) (up_ordered 0 (suc n))
    (λ k. ordered_map less_prop (λ s. k ∷ s) (shapes n (due + k)) (λ s t a b l. Lex.cons l) (shapes_ordered n (due + k)))
    (λ i j s t l a b.
    let x = Memᴰ.of_map (λ w. i ∷ w) (shapes n (due + i)) a in
    let y = Memᴰ.of_map (λ w. j ∷ w) (shapes n (due + j)) b in
    rw (← x.2, ← y.2) (Lex.rel l))
