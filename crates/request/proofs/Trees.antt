-- Theorem 1 of the paper, for the two directions: the order of the trees is the common order of the two sequences.
use mathlib.Core.Path.{◌≡◌, refl, sym, ◌∙◌}
use mathlib.Core.Bool.{Bool, true, false, ◌&&◌, ◌||◌, or-false}
use mathlib.Core.List.{List, ◌∷◌, ◌++◌}
use Prim.Native.Nat.{ℕ, zero, suc, ◌+◌, ◌≤◌, ◌<◌}
use native.Mathlib.Omega.{arith}
use lib.Dec.{eqb, leb}
use Rattle.request.specs.Entries.{pick, quota, one_at, quota_at, no_quota, Entry, total, times, quota_of, has, before, Same, Positive}
use Rattle.request.specs.Forest.{Forest, none, tree, Direction, upright, inverted, pre_l, pre_r, post_l, post_r, left, right, above, tree_order}
use Rattle.request.proofs.Sums.{sum_append, before_left, before_right, before_within, before_here, before_past, quota_none, positive_quota, some_quota}
use Rattle.request.proofs.Sums.{no_later, no_later_lem, later_l, later_r, later_iff, later_swap}
use Rattle.request.proofs.Reversed.{post_l_reverse, post_r_reverse, same_reverse, order_reverse}

-- each of the sequences holds the entries
pub same_pre_r : (t : Forest) → Same (pre_r t) (pre_l t)
same_pre_r none f = refl
same_pre_r (tree w c r) f =
    omega (arith, sum_append f (pre_r r) (w ∷ pre_r c), sum_append f (pre_l c) (pre_l r), same_pre_r c f, same_pre_r r f)

pub same_post_l : (t : Forest) → Same (post_l t) (pre_l t)
same_post_l t f = rw (post_l_reverse t) (same_reverse (pre_r t) f ∙ same_pre_r t f)

pub same_post_r : (t : Forest) → Same (post_r t) (pre_l t)
same_post_r t f = rw (post_r_reverse t) (same_reverse (pre_l t) f)

-- where an entry stands, its quota, and the quotas before it in the two pre-orders: it is the root
pub record Root (x : ℕ) (w : Entry) (c r : Forest) : Type 0 where
  pub is_root : eqb x w.id ≡ true
  pub some : 1 ≤ quota w
  pub in_c : times x (pre_l c) ≡ 0
  pub in_r : times x (pre_l r) ≡ 0
  pub at_pre_l : before x (pre_l (tree w c r)) ≡ 0
  pub at_pre_r : before x (pre_r (tree w c r)) ≡ total (pre_l r)
  pub once : times x (pre_l (tree w c r)) ≡ 1
  pub own : quota_of x (pre_l (tree w c r)) ≡ quota w

-- below the root
pub record Inside (x : ℕ) (w : Entry) (c r : Forest) : Type 0 where
  pub is_root : eqb x w.id ≡ false
  pub in_c : times x (pre_l c) ≡ 1
  pub in_r : times x (pre_l r) ≡ 0
  pub at_pre_l : before x (pre_l (tree w c r)) ≡ quota w + before x (pre_l c)
  pub at_pre_r : before x (pre_r (tree w c r)) ≡ total (pre_l r) + quota w + before x (pre_r c)
  pub once : times x (pre_l (tree w c r)) ≡ 1
  pub own : quota_of x (pre_l (tree w c r)) ≡ quota_of x (pre_l c)
  pub end_pre_l : before x (pre_l c) < total (pre_l c)
  pub end_pre_r : before x (pre_r c) < total (pre_l c)

-- in a later tree
pub record Beyond (x : ℕ) (w : Entry) (c r : Forest) : Type 0 where
  pub is_root : eqb x w.id ≡ false
  pub in_c : times x (pre_l c) ≡ 0
  pub in_r : times x (pre_l r) ≡ 1
  pub at_pre_l : before x (pre_l (tree w c r)) ≡ quota w + total (pre_l c) + before x (pre_l r)
  pub at_pre_r : before x (pre_r (tree w c r)) ≡ before x (pre_r r)
  pub once : times x (pre_l (tree w c r)) ≡ 1
  pub own : quota_of x (pre_l (tree w c r)) ≡ quota_of x (pre_l r)
  pub end_pre_l : before x (pre_l r) < total (pre_l r)
  pub end_pre_r : before x (pre_r r) < total (pre_l r)

data Spot (x : ℕ) (w : Entry) (c r : Forest) : Type 0 where
  root : Root x w c r → Spot x w c r
  inside : Inside x w c r → Spot x w c r
  beyond : Beyond x w c r → Spot x w c r

-- an entry of a positive quota ends before the sequence does
within : (x : ℕ) (s t : List Entry) → Same s t → Positive t → times x t ≡ 1 → before x s < total t
within x s t same pos h = omega (arith, same quota, same (quota_at x), before_within x s (omega (arith, same (one_at x))), positive_quota x t pos)

module _ (x : ℕ) (w : Entry) (c r : Forest) (pos : Positive (pre_l (tree w c r))) where
  pub at_root : eqb x w.id ≡ true → times x (pre_l c) ≡ 0 → times x (pre_l r) ≡ 0 → Root x w c r
  at_root e nc nr = record {
    is_root = e;
    some = some_quota (quota w) (omega arith);
    in_c = nc;
    in_r = nr;
    at_pre_l = before_here x w (pre_l c ++ pre_l r) e;
    at_pre_r = omega (arith, before_right x (pre_r r) (w ∷ pre_r c) (same_pre_r r (one_at x) ∙ nr), before_here x w (pre_r c) e, same_pre_r r quota);
    once = rw e (omega (arith, sum_append (one_at x) (pre_l c) (pre_l r)));
    own = rw e (omega (arith, sum_append (quota_at x) (pre_l c) (pre_l r), quota_none x (pre_l c) nc, quota_none x (pre_l r) nr));
  }

  pub at_inside : eqb x w.id ≡ false → times x (pre_l c) ≡ 1 → times x (pre_l r) ≡ 0 → Inside x w c r
  at_inside e nc nr =
      let pc : Positive (pre_l c) = omega (arith, sum_append no_quota (pre_l c) (pre_l r)) in record {
        is_root = e;
        in_c = nc;
        in_r = nr;
        at_pre_l = omega (arith, before_past x w (pre_l c ++ pre_l r) e, before_left x (pre_l c) (pre_l r) (omega arith));
        at_pre_r = omega (arith, before_right x (pre_r r) (w ∷ pre_r c) (same_pre_r r (one_at x) ∙ nr), before_past x w (pre_r c) e, same_pre_r r quota);
        once = rw e (omega (arith, sum_append (one_at x) (pre_l c) (pre_l r)));
        own = rw e (omega (arith, sum_append (quota_at x) (pre_l c) (pre_l r), quota_none x (pre_l r) nr));
        end_pre_l = within x (pre_l c) (pre_l c) (λ f. refl) pc nc;
        end_pre_r = within x (pre_r c) (pre_l c) (same_pre_r c) pc nc;
      }

  pub at_beyond : eqb x w.id ≡ false → times x (pre_l c) ≡ 0 → times x (pre_l r) ≡ 1 → Beyond x w c r
  at_beyond e nc nr =
      let pr : Positive (pre_l r) = omega (arith, sum_append no_quota (pre_l c) (pre_l r)) in record {
        is_root = e;
        in_c = nc;
        in_r = nr;
        at_pre_l = omega (arith, before_past x w (pre_l c ++ pre_l r) e, before_right x (pre_l c) (pre_l r) nc);
        at_pre_r = before_left x (pre_r r) (w ∷ pre_r c) (omega (arith, same_pre_r r (one_at x)));
        once = rw e (omega (arith, sum_append (one_at x) (pre_l c) (pre_l r)));
        own = rw e (omega (arith, sum_append (quota_at x) (pre_l c) (pre_l r), quota_none x (pre_l c) nc));
        end_pre_l = within x (pre_l r) (pre_l r) (λ f. refl) pr nr;
        end_pre_r = within x (pre_r r) (pre_l r) (same_pre_r r) pr nr;
      }

  spot : times x (pre_l (tree w c r)) ≡ 1 → Spot x w c r
  spot h = go (eqb x w.id) refl (times x (pre_l c)) refl (omega (arith, sum_append (one_at x) (pre_l c) (pre_l r)))
    where
      go : (b : Bool) → eqb x w.id ≡ b → (n : ℕ) → times x (pre_l c) ≡ n → pick (eqb x w.id) 1 0 + (times x (pre_l c) + times x (pre_l r)) ≡ 1 → Spot x w c r
      go true e n k h = let h' = rw e at h in root (at_root e (omega arith) (omega arith))
      go false e zero k h = let h' = rw e at h in beyond (at_beyond e k (omega arith))
      go false e (suc n) k h = let h' = rw e at h in inside (at_inside e (omega arith) (omega arith))

-- an id that stands in no tree is above none
pub above_none : (t : Forest) (x y : ℕ) → times x (pre_l t) ≡ 0 → above t x y ≡ false
above_none none x y h = refl
above_none (tree w c r) x y h =
    let k : pick (eqb x w.id) 1 0 + (times x (pre_l c) + times x (pre_l r)) ≡ 0 = omega (arith, sum_append (one_at x) (pre_l c) (pre_l r)) in
    go (eqb x w.id) k (above_none c x y (omega arith)) (above_none r x y (omega arith))
  where
    go : (b : Bool) → pick b 1 0 + (times x (pre_l c) + times x (pre_l r)) ≡ 0 → above c x y ≡ false → above r x y ≡ false
        → ((b && (eqb y w.id || has y (pre_l c))) || (above c x y || above r x y)) ≡ false
    go true k p s = absurd (omega arith)
    go false k p s = rw (p, s)

-- and none is above it
pub none_above : (t : Forest) (x y : ℕ) → times y (pre_l t) ≡ 0 → above t x y ≡ false
none_above none x y h = refl
none_above (tree w c r) x y h =
    let k : pick (eqb y w.id) 1 0 + (times y (pre_l c) + times y (pre_l r)) ≡ 0 = omega (arith, sum_append (one_at y) (pre_l c) (pre_l r)) in
    let z : times y (pre_l c) ≡ 0 = omega arith in
    rw z (go (eqb x w.id) (eqb y w.id) k (none_above c x y z) (none_above r x y (omega arith)))
  where
    go : (a b : Bool) → pick b 1 0 + (times y (pre_l c) + times y (pre_l r)) ≡ 0 → above c x y ≡ false → above r x y ≡ false
        → ((a && (b || false)) || (above c x y || above r x y)) ≡ false
    go a true k p s = absurd (omega arith)
    go true false k p s = rw (p, s)
    go false false k p s = rw (p, s)

module _ {x y : ℕ} {w : Entry} {c r : Forest} where
  -- the order of two entries, by where they stand
  rel : Spot x w c r → Spot y w c r → Bool
  rel (root a) (root b) = true
  rel (root a) (inside b) = true
  rel (root a) (beyond b) = false
  rel (inside a) (root b) = false
  rel (inside a) (inside b) = above c x y
  rel (inside a) (beyond b) = false
  rel (beyond a) (root b) = false
  rel (beyond a) (inside b) = false
  rel (beyond a) (beyond b) = above r x y

  above_rel : (a : Spot x w c r) (b : Spot y w c r) → above (tree w c r) x y ≡ rel a b
  unfolding rel
  above_rel (root a) (root b) = rw (a.is_root, b.is_root)
  above_rel (root a) (inside b) = rw (a.is_root, b.is_root, b.in_c)
  above_rel (root a) (beyond b) = rw (a.is_root, b.is_root, b.in_c, above_none c x y a.in_c, above_none r x y a.in_r)
  above_rel (inside a) (root b) = rw (a.is_root, none_above c x y b.in_c, none_above r x y b.in_r)
  above_rel (inside a) (inside b) = rw (a.is_root, above_none r x y a.in_r) (or-false (above c x y))
  above_rel (inside a) (beyond b) = rw (a.is_root, none_above c x y b.in_c, above_none r x y a.in_r)
  above_rel (beyond a) (root b) = rw (a.is_root, none_above c x y b.in_c, none_above r x y b.in_r)
  above_rel (beyond a) (inside b) = rw (a.is_root, above_none c x y a.in_c, none_above r x y b.in_r)
  above_rel (beyond a) (beyond b) = rw (a.is_root, above_none c x y a.in_c)

  upright_node : (a : Spot x w c r) (b : Spot y w c r)
      → (times x (pre_l c) ≡ 1 → times y (pre_l c) ≡ 1 → above c x y ≡ no_later (before x (pre_l c)) (before x (pre_r c)) (before y (pre_l c)) (before y (pre_r c)))
      → (times x (pre_l r) ≡ 1 → times y (pre_l r) ≡ 1 → above r x y ≡ no_later (before x (pre_l r)) (before x (pre_r r)) (before y (pre_l r)) (before y (pre_r r)))
      → rel a b ≡ no_later (before x (pre_l (tree w c r))) (before x (pre_r (tree w c r))) (before y (pre_l (tree w c r))) (before y (pre_r (tree w c r)))
  unfolding rel
  upright_node (root a) (root b) ihc ihr = sym (no_later_lem (omega arith) (omega arith))
  upright_node (root a) (inside b) ihc ihr = sym (no_later_lem (omega arith) (omega arith))
  upright_node (root a) (beyond b) ihc ihr = sym (later_r _ _ _ _ (omega arith))
  upright_node (inside a) (root b) ihc ihr = sym (later_l _ _ _ _ (omega arith))
  upright_node (inside a) (inside b) ihc ihr = ihc a.in_c b.in_c ∙ later_iff _ _ _ _ _ _ _ _ (omega arith) (omega arith)
  upright_node (inside a) (beyond b) ihc ihr = sym (later_r _ _ _ _ (omega arith))
  upright_node (beyond a) (root b) ihc ihr = sym (later_l _ _ _ _ (omega arith))
  upright_node (beyond a) (inside b) ihc ihr = sym (later_l _ _ _ _ (omega arith))
  upright_node (beyond a) (beyond b) ihc ihr = ihr a.in_r b.in_r ∙ later_iff _ _ _ _ _ _ _ _ (omega arith) (omega arith)

-- Theorem 1, upright: x is y or an ancestor of y exactly where it stands no later in both sequences
upright_order : (t : Forest) (x y : ℕ) → Positive (pre_l t) → times x (pre_l t) ≡ 1 → times y (pre_l t) ≡ 1
    → above t x y ≡ no_later (before x (pre_l t)) (before x (pre_r t)) (before y (pre_l t)) (before y (pre_r t))
upright_order none x y pos hx hy = absurd (omega arith)
upright_order (tree w c r) x y pos hx hy =
    let a = spot x w c r pos hx in
    let b = spot y w c r pos hy in
    let p = sum_append no_quota (pre_l c) (pre_l r) in
    above_rel a b ∙ upright_node a b (upright_order c x y (omega arith)) (upright_order r x y (omega arith))

-- Theorem 1, inverted: x is y or a descendant of y exactly where it stands no later in both sequences, which are the upright ones from their ends
inverted_order : (t : Forest) (x y : ℕ) → Positive (pre_l t) → times x (pre_l t) ≡ 1 → times y (pre_l t) ≡ 1
    → above t y x ≡ no_later (before x (post_l t)) (before x (post_r t)) (before y (post_l t)) (before y (post_r t))
inverted_order t x y pos hx hy =
    let s = same_pre_r t in
    rw (post_l_reverse t, post_r_reverse t)
    (upright_order t y x pos hy hx ∙ later_swap _ _ _ _
    ∙ sym (later_iff _ _ _ _ _ _ _ _ (order_reverse x y (pre_r t) (s no_quota ∙ pos) (s (one_at x) ∙ hx) (s (one_at y) ∙ hy)) (order_reverse x y (pre_l t) pos hx hy)))

-- the two sequences of a direction hold the entries
pub same_left : (d : Direction) (t : Forest) → Same (left d t) (pre_l t)
same_left upright t f = refl
same_left inverted t f = same_post_l t f

pub same_right : (d : Direction) (t : Forest) → Same (right d t) (pre_l t)
same_right upright t f = same_pre_r t f
same_right inverted t f = same_post_r t f

-- Theorem 1
pub tree_order_lem : (d : Direction) (t : Forest) (x y : ℕ) → Positive (pre_l t) → times x (pre_l t) ≡ 1 → times y (pre_l t) ≡ 1
    → tree_order d t x y ≡ (leb (before x (left d t)) (before y (left d t)) && leb (before x (right d t)) (before y (right d t)))
unfolding no_later
tree_order_lem upright t x y pos hx hy = upright_order t x y pos hx hy
tree_order_lem inverted t x y pos hx hy = inverted_order t x y pos hx hy
