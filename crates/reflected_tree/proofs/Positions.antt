-- The order of the two sequences of groups is Table 2.
use mathlib.Core.Path.{◌≡◌, refl, ap, sym, ◌∙◌}
use mathlib.Core.Bool.{Bool, true, false, cond, ◌||◌, or-false}
use mathlib.Core.List.{List, ◌∷◌, ◌++◌}
use Prim.Native.Nat.{ℕ, zero, suc, ◌+◌, ◌≤◌, ◌<◌}
use native.Mathlib.Omega.{arith}
use lib.Dec.{eqb}
use borrow.Author.Tests.{eqb-true, le-leb, lt-leb}
use Rattle.rules.proofs.Bools.{or_none}
use Rattle.request.specs.Entries.{Entry, entry, pick, quota, one_at, no_quota, total, times, has, before, Same, Distinct, Positive}
use Rattle.request.specs.Forest.{pre_l, pre_r}
use Rattle.request.proofs.Sums.{sum_append, eqb_same, count_head, before_left, before_right, before_here, before_past, before_within, positive_quota, no_later, later_iff}
use Rattle.request.proofs.Trees.{at_root, at_inside, at_beyond}
use Rattle.request.proofs.Numbering.{pick_false}
use Rattle.reflected_tree.specs.Reflected.{Reflected, empty, node, lower_of, groups, groups_r, uppers}
use Rattle.reflected_tree.specs.Table2.{type_b, image, l_value, r_value, condition, table2}
use Rattle.reflected_tree.proofs.Groups.{parts, same_groups, groups_positive, uppers_positive, uppers_times}
use Rattle.reflected_tree.proofs.Conditions.{shifted, says_same, says_mirror, says_turned, says_down, says_no_down, says_up, says_no_up, says_left, says_right}

-- an entry of a positive quota ends before the sequence does
within : (x : ℕ) (s t : List Entry) → Same s t → Positive t → times x t ≡ 1 → before x s < total t
within x s t same pos h =
    omega (arith, same quota, before_within x s (omega (arith, same (one_at x))), positive_quota x s (same no_quota ∙ pos), same (one_at x))

-- the lower group
pub low_before : (x l : ℕ) (c : Reflected) → times x (lower_of l c) ≡ 1 → (x ≡ l) × (before x (lower_of l c) ≡ 0) × (total (lower_of l c) ≡ 1)
low_before x l empty h = absurd (omega arith)
low_before x l (node u m c r) h = go (eqb x l) refl h
  where
    go : (b : Bool) → eqb x l ≡ b → pick b 1 0 + 0 ≡ 1 → (x ≡ l) × (pick b 0 (1 + 0) ≡ 0) × (total (lower_of l (node u m c r)) ≡ 1)
    go true e h = (eqb-true x l e, refl, refl)
    go false e h = absurd (omega arith)

-- types and images where the group is not
pub type_none : (x : ℕ) (t : Reflected) → times x (groups t) ≡ 0 → type_b t x ≡ false
type_none x empty h = refl
type_none x (node u l c r) h =
    let p = parts (one_at x) u l c r in
    let z : times x (lower_of l c) < 1 = omega arith in
    rw (lt-leb 1 (times x (lower_of l c)) z, type_none x c (omega arith), type_none x r (omega arith))

pub image_upper : (x : ℕ) (t : Reflected) → type_b t x ≡ false → image t x ≡ x
image_upper x empty h = refl
image_upper x (node u l c r) h =
    let a = or_none (has x (lower_of l c)) (type_b c x || type_b r x) h in
    let b = or_none (type_b c x) (type_b r x) a.1 in
    rw (a.0, b.0) (image_upper x r b.1)

-- where a group stands in a node's tree and the trees to its right
pub data Place (x u l : ℕ) (c r : Reflected) : Type 0 where
  top : eqb x u ≡ true → times x (groups c) ≡ 0 → times x (lower_of l c) ≡ 0 → times x (groups r) ≡ 0 → Place x u l c r
  bottom : eqb x u ≡ false → times x (groups c) ≡ 0 → times x (lower_of l c) ≡ 1 → times x (groups r) ≡ 0 → Place x u l c r
  inside : eqb x u ≡ false → times x (groups c) ≡ 1 → times x (lower_of l c) ≡ 0 → times x (groups r) ≡ 0 → Place x u l c r
  beyond : eqb x u ≡ false → times x (groups c) ≡ 0 → times x (lower_of l c) ≡ 0 → times x (groups r) ≡ 1 → Place x u l c r

pub place : (x u l : ℕ) (c r : Reflected) → times x (groups (node u l c r)) ≡ 1 → Place x u l c r
place x u l c r h = go (eqb x u) refl (times x (groups c)) refl (times x (lower_of l c)) refl (omega (arith, parts (one_at x) u l c r))
  where
    go : (b : Bool) → eqb x u ≡ b → (n : ℕ) → times x (groups c) ≡ n → (m : ℕ) → times x (lower_of l c) ≡ m
        → pick (eqb x u) 1 0 + (times x (groups c) + (times x (lower_of l c) + times x (groups r))) ≡ 1 → Place x u l c r
    go true e n k m j h = let h' = rw e at h in top e (omega arith) (omega arith) (omega arith)
    go false e (suc n) k m j h = let h' = rw e at h in inside e (omega arith) (omega arith) (omega arith)
    go false e zero k (suc m) j h = let h' = rw e at h in bottom e (omega arith) (omega arith) (omega arith)
    go false e zero k zero j h = let h' = rw e at h in beyond e (omega arith) (omega arith) (omega arith)

module _ (x u l : ℕ) (c r : Reflected) where
  no_low : times x (lower_of l c) ≡ 0 → has x (lower_of l c) ≡ false
  no_low h = lt-leb 1 (times x (lower_of l c)) (omega arith)

  is_low : times x (lower_of l c) ≡ 1 → has x (lower_of l c) ≡ true
  is_low h = le-leb 1 (times x (lower_of l c)) (omega arith)

  pub image_top : times x (groups c) ≡ 0 → times x (lower_of l c) ≡ 0 → times x (groups r) ≡ 0 → (type_b (node u l c r) x ≡ false) × (image (node u l c r) x ≡ x)
  image_top nc nl nr = (rw (no_low nl, type_none x c nc, type_none x r nr), rw (no_low nl, type_none x c nc) (image_upper x r (type_none x r nr)))

  pub image_bottom : times x (lower_of l c) ≡ 1 → (type_b (node u l c r) x ≡ true) × (image (node u l c r) x ≡ u)
  image_bottom h = (rw (is_low h), rw (is_low h))

  pub image_inside : times x (lower_of l c) ≡ 0 → times x (groups r) ≡ 0 → (type_b (node u l c r) x ≡ type_b c x) × (image (node u l c r) x ≡ image c x)
  image_inside nl nr = (rw (no_low nl, type_none x r nr) (or-false (type_b c x)), rw (no_low nl) (go (type_b c x) refl))
    where
      go : (b : Bool) → type_b c x ≡ b → cond b (image c x) (image r x) ≡ image c x
      go true e = refl
      go false e = image_upper x r (type_none x r nr) ∙ sym (image_upper x c e)

  pub image_beyond : times x (groups c) ≡ 0 → times x (lower_of l c) ≡ 0 → (type_b (node u l c r) x ≡ type_b r x) × (image (node u l c r) x ≡ image r x)
  image_beyond nc nl = (rw (no_low nl, type_none x c nc), rw (no_low nl, type_none x c nc))

moved : {y z : ℕ} (s : List Entry) → y ≡ z → 1 ≤ times z s → 1 ≤ times y s
moved s e h = rw e h

-- a group's image is in the upper half
pub image_in : (x : ℕ) (t : Reflected) → times x (groups t) ≡ 1 → 1 ≤ times (image t x) (pre_l (uppers t))
image_in x empty h = absurd (omega arith)
image_in x (node u l c r) h = go (place x u l c r h) (image_in x c) (image_in x r)
  where
    sums : (y : ℕ) → times y (pre_l (uppers (node u l c r))) ≡ pick (eqb y u) 1 0 + (times y (pre_l (uppers c)) + times y (pre_l (uppers r)))
    sums y = omega (arith, sum_append (one_at y) (pre_l (uppers c)) (pre_l (uppers r)))

    go : Place x u l c r → (times x (groups c) ≡ 1 → 1 ≤ times (image c x) (pre_l (uppers c))) → (times x (groups r) ≡ 1 → 1 ≤ times (image r x) (pre_l (uppers r)))
        → 1 ≤ times (image (node u l c r) x) (pre_l (uppers (node u l c r)))
    go (top e nc nl nr) ihc ihr =
        let z : pick (eqb x u) 1 0 ≡ 1 = rw e in moved (pre_l (uppers (node u l c r))) (image_top x u l c r nc nl nr).1 (omega (arith, sums x))
    go (bottom e nc nl nr) ihc ihr =
        moved (pre_l (uppers (node u l c r))) (image_bottom x u l c r nl).1 (count_head u (pre_l (uppers c) ++ pre_l (uppers r)))
    go (inside e nc nl nr) ihc ihr =
        moved (pre_l (uppers (node u l c r))) (image_inside x u l c r nl nr).1 (omega (arith, sums (image c x), ihc nc))
    go (beyond e nc nl nr) ihc ihr =
        moved (pre_l (uppers (node u l c r))) (image_beyond x u l c r nc nl).1 (omega (arith, sums (image r x), ihr nr))

-- what stands before a group in each sequence, and its lr-values: the root's upper group
record Top (x u l : ℕ) (c r : Reflected) : Type 0 where
  is : x ≡ u
  at_l : before x (groups (node u l c r)) ≡ 0
  at_r : before x (groups_r (node u l c r)) ≡ total (groups r)
  type : type_b (node u l c r) x ≡ false
  l_is : l_value (node u l c r) x ≡ 1
  r_is : r_value (node u l c r) x ≡ total (pre_l (uppers r)) + 1

-- its lower group
record Bottom (x u l : ℕ) (c r : Reflected) : Type 0 where
  is : x ≡ l
  at_l : before x (groups (node u l c r)) ≡ 1 + total (groups c)
  at_r : before x (groups_r (node u l c r)) ≡ total (groups r) + 1 + total (groups c)
  some : total (lower_of l c) ≡ 1
  type : type_b (node u l c r) x ≡ true
  l_is : l_value (node u l c r) x ≡ 1
  r_is : r_value (node u l c r) x ≡ total (pre_l (uppers r)) + 1

-- a group of the children's trees
record Inside (x u l : ℕ) (c r : Reflected) : Type 0 where
  in_c : times x (groups c) ≡ 1
  at_l : before x (groups (node u l c r)) ≡ 1 + before x (groups c)
  at_r : before x (groups_r (node u l c r)) ≡ total (groups r) + 1 + before x (groups_r c)
  end_l : before x (groups c) < total (groups c)
  end_r : before x (groups_r c) < total (groups c)
  type : type_b (node u l c r) x ≡ type_b c x
  l_is : l_value (node u l c r) x ≡ 1 + l_value c x
  r_is : r_value (node u l c r) x ≡ total (pre_l (uppers r)) + 1 + r_value c x
  l_end : l_value c x ≤ total (pre_l (uppers c))

-- a group of the trees to the right
record Beyond (x u l : ℕ) (c r : Reflected) : Type 0 where
  in_r : times x (groups r) ≡ 1
  at_l : before x (groups (node u l c r)) ≡ 1 + total (groups c) + total (lower_of l c) + before x (groups r)
  at_r : before x (groups_r (node u l c r)) ≡ before x (groups_r r)
  end_r : before x (groups_r r) < total (groups r)
  type : type_b (node u l c r) x ≡ type_b r x
  l_is : l_value (node u l c r) x ≡ 1 + total (pre_l (uppers c)) + l_value r x
  r_is : r_value (node u l c r) x ≡ 0 + r_value r x
  r_end : r_value r x ≤ total (pre_l (uppers r))

data Spot (x u l : ℕ) (c r : Reflected) : Type 0 where
  is_top : Top x u l c r → Spot x u l c r
  is_bottom : Bottom x u l c r → Spot x u l c r
  is_inside : Inside x u l c r → Spot x u l c r
  is_beyond : Beyond x u l c r → Spot x u l c r

module _ (x u l : ℕ) (c r : Reflected) (distinct : Distinct (groups (node u l c r))) where
  abbrev t : Reflected
  t = node u l c r

  abbrev m : ℕ
  m = image t x

  pos : Positive (pre_l (uppers t))
  pos = uppers_positive t

  -- the root is in none of the subtrees
  root_once : (times u (groups c) ≡ 0) × (times u (groups r) ≡ 0)
  root_once =
      let z : pick (eqb u u) 1 0 ≡ 1 = rw (eqb_same u) in
      (omega (arith, parts (one_at u) u l c r, distinct u), omega (arith, parts (one_at u) u l c r, distinct u))

  -- an id of the upper half of the children's trees, or of those to the right
  pub up_c : (y : ℕ) → 1 ≤ times y (pre_l (uppers c)) → (eqb y u ≡ false) × (times y (pre_l (uppers c)) ≡ 1) × (times y (pre_l (uppers r)) ≡ 0)
  up_c y h =
      let p = parts (one_at y) u l c r in
      let d = distinct y in
      let i = uppers_times y c in
      let j = uppers_times y r in
      (pick_false (eqb y u) (omega arith), omega arith, omega arith)

  pub up_r : (y : ℕ) → 1 ≤ times y (pre_l (uppers r)) → (eqb y u ≡ false) × (times y (pre_l (uppers c)) ≡ 0) × (times y (pre_l (uppers r)) ≡ 1)
  up_r y h =
      let p = parts (one_at y) u l c r in
      let d = distinct y in
      let i = uppers_times y c in
      let j = uppers_times y r in
      (pick_false (eqb y u) (omega arith), omega arith, omega arith)

  -- lr-values by the image
  at_u : (y : ℕ) → eqb y u ≡ true → times y (groups c) ≡ 0 → times y (groups r) ≡ 0
      → (before y (pre_l (uppers t)) ≡ 0) × (before y (pre_r (uppers t)) ≡ total (pre_l (uppers r)))
  at_u y e nc nr =
      let i = at_root y (entry u 1) (uppers c) (uppers r) pos e (omega (arith, uppers_times y c)) (omega (arith, uppers_times y r)) in
      (i.at_pre_l, i.at_pre_r)

  values : (y : ℕ) → m ≡ y → (l_value t x ≡ 1 + before y (pre_l (uppers t))) × (r_value t x ≡ 1 + before y (pre_r (uppers t)))
  values y e = (ap (λ k. 1 + before k (pre_l (uppers t))) e, ap (λ k. 1 + before k (pre_r (uppers t))) e)

  spot : times x (groups t) ≡ 1 → Spot x u l c r
  spot h = go (place x u l c r h)
    where
      not_r : times x (groups r) ≡ 0 → times x (groups_r r) ≡ 0
      not_r k = same_groups r (one_at x) ∙ k

      not_c : times x (groups c) ≡ 0 → times x (groups_r c) ≡ 0
      not_c k = same_groups c (one_at x) ∙ k

      go : Place x u l c r → Spot x u l c r
      go (top e nc nl nr) =
          let i = image_top x u l c r nc nl nr in
          let v = values x i.1 in
          let a = at_u x e nc nr in
          is_top (record {
            is = eqb-true x u e;
            at_l = before_here x (entry u 1) (groups c ++ (lower_of l c ++ groups r)) e;
            at_r =
                omega (
                  arith,
                  before_right x (groups_r r) (entry u 1 ∷ (groups_r c ++ lower_of l c)) (not_r nr),
                  before_here x (entry u 1) (groups_r c ++ lower_of l c) e,
                  same_groups r quota,
                );
            type = i.0;
            l_is = omega arith;
            r_is = omega arith;
          })
      go (bottom e nc nl nr) =
          let i = image_bottom x u l c r nl in
          let v = values u i.1 in
          let a = at_u u (eqb_same u) root_once.0 root_once.1 in
          let b = low_before x l c nl in
          is_bottom (record {
            is = b.0;
            at_l =
                omega (
                  arith,
                  before_past x (entry u 1) (groups c ++ (lower_of l c ++ groups r)) e,
                  before_right x (groups c) (lower_of l c ++ groups r) nc,
                  before_left x (lower_of l c) (groups r) (omega arith),
                );
            at_r =
                omega (
                  arith,
                  before_right x (groups_r r) (entry u 1 ∷ (groups_r c ++ lower_of l c)) (not_r nr),
                  before_past x (entry u 1) (groups_r c ++ lower_of l c) e,
                  before_right x (groups_r c) (lower_of l c) (not_c nc),
                  same_groups r quota,
                  same_groups c quota,
                );
            some = b.2;
            type = i.0;
            l_is = omega arith;
            r_is = omega arith;
          })
      go (inside e nc nl nr) =
          let i = image_inside x u l c r nl nr in
          let v = values (image c x) i.1 in
          let k = up_c (image c x) (image_in x c nc) in
          let a = at_inside (image c x) (entry u 1) (uppers c) (uppers r) pos k.0 k.1 k.2 in
          is_inside (record {
            in_c = nc;
            at_l =
                omega (arith, before_past x (entry u 1) (groups c ++ (lower_of l c ++ groups r)) e, before_left x (groups c) (lower_of l c ++ groups r) (omega arith));
            at_r =
                omega (
                  arith,
                  before_right x (groups_r r) (entry u 1 ∷ (groups_r c ++ lower_of l c)) (not_r nr),
                  before_past x (entry u 1) (groups_r c ++ lower_of l c) e,
                  before_left x (groups_r c) (lower_of l c) (omega (arith, same_groups c (one_at x))),
                  same_groups r quota,
                );
            end_l = within x (groups c) (groups c) (λ f. refl) (groups_positive c) nc;
            end_r = within x (groups_r c) (groups c) (same_groups c) (groups_positive c) nc;
            type = i.0;
            l_is = omega arith;
            r_is = omega arith;
            l_end = omega arith;
          })
      go (beyond e nc nl nr) =
          let i = image_beyond x u l c r nc nl in
          let v = values (image r x) i.1 in
          let k = up_r (image r x) (image_in x r nr) in
          let a = at_beyond (image r x) (entry u 1) (uppers c) (uppers r) pos k.0 k.1 k.2 in
          is_beyond (record {
            in_r = nr;
            at_l =
                omega (
                  arith,
                  before_past x (entry u 1) (groups c ++ (lower_of l c ++ groups r)) e,
                  before_right x (groups c) (lower_of l c ++ groups r) nc,
                  before_right x (lower_of l c) (groups r) nl,
                );
            at_r = before_left x (groups_r r) (entry u 1 ∷ (groups_r c ++ lower_of l c)) (omega (arith, same_groups r (one_at x)));
            end_r = within x (groups_r r) (groups r) (same_groups r) (groups_positive r) nr;
            type = i.0;
            l_is = omega arith;
            r_is = omega arith;
            r_end = omega arith;
          })

-- the order that the sequences of groups say, and Table 2 with equality
abbrev Line : Reflected → ℕ → ℕ → Bool
Line t x y = no_later (before x (groups t)) (before x (groups_r t)) (before y (groups t)) (before y (groups_r t))

abbrev Table : Reflected → ℕ → ℕ → Bool
Table t x y = condition (type_b t x) (type_b t y) (l_value t x) (r_value t x) (l_value t y) (r_value t y)

module _ (x y u l : ℕ) (c r : Reflected) where
  abbrev whole : Reflected
  whole = node u l c r

  abbrev gl : List Entry
  gl = groups whole

  abbrev gr : List Entry
  gr = groups_r whole

  abbrev a : Bool
  a = type_b whole x

  abbrev b : Bool
  b = type_b whole y

  abbrev lx : ℕ
  lx = l_value whole x

  abbrev rx : ℕ
  rx = r_value whole x

  abbrev ly : ℕ
  ly = l_value whole y

  abbrev ry : ℕ
  ry = r_value whole y

  node_says : Spot x u l c r → Spot y u l c r
      → (times x (groups c) ≡ 1 → times y (groups c) ≡ 1 → Line c x y ≡ (eqb x y || Table c x y))
      → (times x (groups r) ≡ 1 → times y (groups r) ≡ 1 → Line r x y ≡ (eqb x y || Table r x y))
      → Line (node u l c r) x y ≡ (eqb x y || Table (node u l c r) x y)
  node_says (is_top p) (is_top q) ihc ihr = says_same x y gl gr a b lx rx ly ry (p.is ∙ sym q.is)
  node_says (is_top p) (is_bottom q) ihc ihr = says_mirror x y gl gr a b lx rx ly ry (omega arith) (omega arith) p.type q.type (omega arith) (omega arith)
  node_says (is_top p) (is_inside q) ihc ihr = says_down x y gl gr a b lx rx ly ry (omega arith) (omega arith) p.type (omega arith) (omega arith)
  node_says (is_top p) (is_beyond q) ihc ihr = says_left x y gl gr a b lx rx ly ry (omega arith) (omega arith) (omega arith)
  node_says (is_bottom p) (is_top q) ihc ihr = says_turned x y gl gr a b lx rx ly ry (omega arith) p.type q.type
  node_says (is_bottom p) (is_bottom q) ihc ihr = says_same x y gl gr a b lx rx ly ry (p.is ∙ sym q.is)
  node_says (is_bottom p) (is_inside q) ihc ihr = says_no_down x y gl gr a b lx rx ly ry (omega arith) p.type (omega arith)
  node_says (is_bottom p) (is_beyond q) ihc ihr = says_left x y gl gr a b lx rx ly ry (omega arith) (omega arith) (omega arith)
  node_says (is_inside p) (is_top q) ihc ihr = says_no_up x y gl gr a b lx rx ly ry (omega arith) q.type (omega arith)
  node_says (is_inside p) (is_bottom q) ihc ihr = says_up x y gl gr a b lx rx ly ry (omega arith) (omega arith) q.type (omega arith) (omega arith)
  node_says (is_inside p) (is_inside q) ihc ihr =
      let same : Line (node u l c r) x y ≡ Line c x y = later_iff _ _ _ _ _ _ _ _ (omega arith) (omega arith) in
      same ∙ ihc p.in_c q.in_c
      ∙ ap (λ k. eqb x y || k)
      (shifted 1 (total (pre_l (uppers r)) + 1) (l_value c x) (r_value c x) (l_value c y) (r_value c y) p.type q.type p.l_is p.r_is q.l_is q.r_is)
  node_says (is_inside p) (is_beyond q) ihc ihr = says_left x y gl gr a b lx rx ly ry (omega arith) (omega arith) (omega arith)
  node_says (is_beyond p) (is_top q) ihc ihr = says_right x y gl gr a b lx rx ly ry (omega arith) (omega arith) (omega arith)
  node_says (is_beyond p) (is_bottom q) ihc ihr = says_right x y gl gr a b lx rx ly ry (omega arith) (omega arith) (omega arith)
  node_says (is_beyond p) (is_inside q) ihc ihr = says_right x y gl gr a b lx rx ly ry (omega arith) (omega arith) (omega arith)
  node_says (is_beyond p) (is_beyond q) ihc ihr =
      let same : Line (node u l c r) x y ≡ Line r x y = later_iff _ _ _ _ _ _ _ _ (omega arith) (omega arith) in
      same ∙ ihr p.in_r q.in_r
      ∙ ap (λ k. eqb x y || k)
      (shifted (1 + total (pre_l (uppers c))) 0 (l_value r x) (r_value r x) (l_value r y) (r_value r y) p.type q.type p.l_is p.r_is q.l_is q.r_is)

line_table : (t : Reflected) (x y : ℕ) → Distinct (groups t) → times x (groups t) ≡ 1 → times y (groups t) ≡ 1 → Line t x y ≡ (eqb x y || Table t x y)
line_table empty x y d hx hy = absurd (omega arith)
line_table (node u l c r) x y d hx hy =
    node_says x y u l c r (spot x u l c r d hx) (spot y u l c r d hy)
    (line_table c x y (λ z. omega (arith, parts (one_at z) u l c r, d z)))
    (line_table r x y (λ z. omega (arith, parts (one_at z) u l c r, d z)))

-- for every two groups of the tree
pub sequences_say : (t : Reflected) (x y : ℕ) → Distinct (groups t) → times x (groups t) ≡ 1 → times y (groups t) ≡ 1
    → no_later (before x (groups t)) (before x (groups_r t)) (before y (groups t)) (before y (groups_r t)) ≡ table2 t x y
unfolding table2
sequences_say t x y d hx hy = line_table t x y d hx hy
