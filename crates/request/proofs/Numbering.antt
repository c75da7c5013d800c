-- The numbers that a walk over the trees finds are the quotas before each entry in its sequence.
use mathlib.Core.Path.{◌≡◌, refl, ap, ap₂, sym, ◌∙◌}
use mathlib.Core.Bool.{Bool, true, false}
use mathlib.Core.List.{List, [], ◌∷◌, ◌++◌, map, map-append}
use Prim.Native.Nat.{ℕ, ◌+◌, ◌≤◌}
use native.Mathlib.Omega.{arith}
use lib.Dec.{eqb}
use lib.ListN.{length, length-append}
use Rattle.request.specs.Entries.{pick, quota, one_at, quota_at, no_quota, Entry, total, times, quota_of, before, Distinct, Positive}
use Rattle.request.specs.Forest.{Forest, none, tree, Direction, upright, inverted, pre_l, pre_r, post_l, post_r, left, right}
use Rattle.request.specs.Numbering.{whole, size, up_l, up_r, down_l, down_r, lefts, rights}
use Rattle.request.proofs.Sums.{sum_append, eqb_same, count_head}
use Rattle.request.proofs.Trees.{Root, Inside, Beyond, at_root, at_inside, at_beyond, same_pre_r}
use Rattle.request.proofs.Reversed.{post_l_reverse, post_r_reverse, before_reverse}

pub size_length : (t : Forest) → size t ≡ length (pre_l t)
size_length none = refl
size_length (tree w c r) = simp length-append (omega (arith, size_length c, size_length r))

pub whole_total : (t : Forest) → whole t ≡ total (pre_l t)
whole_total none = refl
whole_total (tree w c r) = omega (arith, sum_append quota (pre_l c) (pre_l r), whole_total c, whole_total r)

-- two functions that agree at the entries of a list
map_at : (f g : Entry → ℕ) (s : List Entry) → ((e : Entry) → 1 ≤ times e.id s → f e ≡ g e) → map f s ≡ map g s
map_at f g [] h = refl
map_at f g (e ∷ s) h = ap₂ (λ x l. x ∷ l) (h e (count_head e.id s)) (map_at f g s (λ v k. h v (omega arith)))

pub pick_false : (b : Bool) → pick b 1 0 ≡ 0 → b ≡ false
pick_false true h = absurd (omega arith)
pick_false false h = refl

module _ (w : Entry) (c r : Forest) (pos : Positive (pre_l (tree w c r))) (d : Distinct (pre_l (tree w c r))) where
  the_root : Root w.id w c r
  the_root =
      let k : pick (eqb w.id w.id) 1 0 ≡ 1 = rw (eqb_same w.id) in
      let s = sum_append (one_at w.id) (pre_l c) (pre_l r) in
      let u = d w.id in
      at_root w.id w c r pos (eqb_same w.id) (omega arith) (omega arith)

  in_children : (x : ℕ) → 1 ≤ times x (pre_l c) → Inside x w c r
  in_children x h =
      let s = sum_append (one_at x) (pre_l c) (pre_l r) in
      let u = d x in
      at_inside x w c r pos (pick_false (eqb x w.id) (omega arith)) (omega arith) (omega arith)

  in_rest : (x : ℕ) → 1 ≤ times x (pre_l r) → Beyond x w c r
  in_rest x h =
      let s = sum_append (one_at x) (pre_l c) (pre_l r) in
      let u = d x in
      at_beyond x w c r pos (pick_false (eqb x w.id) (omega arith)) (omega arith) (omega arith)

  distinct_c : Distinct (pre_l c)
  distinct_c x = omega (arith, sum_append (one_at x) (pre_l c) (pre_l r), d x)

  distinct_r : Distinct (pre_l r)
  distinct_r x = omega (arith, sum_append (one_at x) (pre_l c) (pre_l r), d x)

  positive_c : Positive (pre_l c)
  positive_c = omega (arith, sum_append no_quota (pre_l c) (pre_l r))

  positive_r : Positive (pre_l r)
  positive_r = omega (arith, sum_append no_quota (pre_l c) (pre_l r))

-- a walk gives a tree's root a number, and beginnings to the part of its children and to that of the trees to its right, as a sequence has them
abbrev Follows : (ℕ → Forest → List ℕ) → (Forest → List Entry) → Type 0
Follows walk seq =
    (b : ℕ) (w : Entry) (c r : Forest) → (n i j : ℕ) × (walk b (tree w c r) ≡ n ∷ walk i c ++ walk j r) × (Root w.id w c r → n ≡ b + before w.id (seq (tree w c r)))
    × ((x : ℕ) → Inside x w c r → i + before x (seq c) ≡ b + before x (seq (tree w c r))) × ((x : ℕ) → Beyond x w c r → j + before x (seq r) ≡ b + before x (seq (tree w c r)))

-- it gives every entry the quotas before it in the sequence
numbers_are : (walk : ℕ → Forest → List ℕ) (seq : Forest → List Entry) → ((b : ℕ) → walk b none ≡ []) → Follows walk seq
    → (b : ℕ) (t : Forest) → Positive (pre_l t) → Distinct (pre_l t) → walk b t ≡ map (λ e. b + before e.id (seq t)) (pre_l t)
numbers_are walk seq start follows b none pos d = start b
numbers_are walk seq start follows b (tree w c r) pos d =
    let f = follows b w c r in
    let h : Entry → ℕ = λ e. b + before e.id (seq (tree w c r)) in
    f.3
    ∙ ap₂ (λ n l. n ∷ l) (f.4 (the_root w c r pos d))
    (ap₂ (λ k l. k ++ l)
    (numbers_are walk seq start follows f.1 c (positive_c w c r pos d) (distinct_c w c r pos d) ∙ map_at _ h (pre_l c) (λ e m. f.5 e.id (in_children w c r pos d e.id m)))
    (numbers_are walk seq start follows f.2 r (positive_r w c r pos d) (distinct_r w c r pos d) ∙ map_at _ h (pre_l r) (λ e m. f.6 e.id (in_rest w c r pos d e.id m)))
    ∙ sym (map-append h (pre_l c) (pre_l r)))

-- what stands before an entry in a post-order, by what stands before it in the other pre-order
post_l_before : (x : ℕ) (t : Forest) → times x (pre_l t) ≡ 1 → before x (post_l t) + (before x (pre_r t) + quota_of x (pre_l t)) ≡ whole t
post_l_before x t h =
    let s = same_pre_r t in
    omega (arith, ap (before x) (post_l_reverse t), before_reverse x (pre_r t) (s (one_at x) ∙ h), s (quota_at x), s quota, whole_total t)

post_r_before : (x : ℕ) (t : Forest) → times x (pre_l t) ≡ 1 → before x (post_r t) + (before x (pre_l t) + quota_of x (pre_l t)) ≡ whole t
post_r_before x t h = omega (arith, ap (before x) (post_r_reverse t), before_reverse x (pre_l t) h, whole_total t)

up_l_follows : Follows up_l pre_l
up_l_follows b w c r = let n = whole_total c in (_, _, _, refl, λ a. omega arith, λ x a. omega arith, λ x a. omega arith)

up_r_follows : Follows up_r pre_r
up_r_follows b w c r = let n = whole_total r in (_, _, _, refl, λ a. omega arith, λ x a. omega arith, λ x a. omega arith)

down_l_follows : Follows down_l post_l
down_l_follows b w c r =
    let t = tree w c r in
    let n = whole_total c in
    let m = whole_total r in (
      _,
      _,
      _,
      refl,
      λ a. omega (arith, post_l_before w.id t a.once),
      λ x a. omega (arith, post_l_before x t a.once, post_l_before x c a.in_c),
      λ x a. omega (arith, post_l_before x t a.once, post_l_before x r a.in_r),
    )

down_r_follows : Follows down_r post_r
down_r_follows b w c r =
    let t = tree w c r in
    let n = whole_total c in
    let m = whole_total r in (
      _,
      _,
      _,
      refl,
      λ a. omega (arith, post_r_before w.id t a.once),
      λ x a. omega (arith, post_r_before x t a.once, post_r_before x c a.in_c),
      λ x a. omega (arith, post_r_before x t a.once, post_r_before x r a.in_r),
    )

-- what a walk writes is what the rules say
pub lefts_are : (d : Direction) (b : ℕ) (t : Forest) → Positive (pre_l t) → Distinct (pre_l t) → lefts d b t ≡ map (λ e. b + before e.id (left d t)) (pre_l t)
lefts_are upright = numbers_are up_l pre_l (λ b. refl) up_l_follows
lefts_are inverted = numbers_are down_l post_l (λ b. refl) down_l_follows

pub rights_are : (d : Direction) (b : ℕ) (t : Forest) → Positive (pre_l t) → Distinct (pre_l t) → rights d b t ≡ map (λ e. b + before e.id (right d t)) (pre_l t)
rights_are upright = numbers_are up_r pre_r (λ b. refl) up_r_follows
rights_are inverted = numbers_are down_r post_r (λ b. refl) down_r_follows
