-- Table 2 by lr-values is Table 2 by ancestry in the upper half.
use mathlib.Core.Path.{◌≡◌, refl, ap, ap₂, sym, ◌∙◌}
use mathlib.Core.Bool.{Bool, true, false, cond, ◌&&◌, ◌||◌, or-true, or-false, true≢false}
use mathlib.Core.Logic.{◌≢◌, inl, inr}
use Prim.Native.Nat.{ℕ, ◌+◌, ◌≤◌}
use native.Mathlib.Omega.{arith}
use lib.Dec.{eqb, leb, ltb}
use borrow.Author.Tests.{eq-eqb, ne_eqb, le-leb, lt-leb, lt-ltb, le-ltb}
use Rattle.rules.proofs.Cases.{by_eq}
use Rattle.rules.proofs.Ranges.{Clear}
use Rattle.request.specs.Entries.{one_at, no_quota, times, has, quota_of, before, Distinct, Positive}
use Rattle.request.specs.Forest.{Forest, upright, pre_l, pre_r, above}
use Rattle.request.proofs.Sums.{eqb_same, apart, positive_quota}
use Rattle.request.proofs.Trees.{same_pre_r, tree_order_lem}
use Rattle.reflected_tree.specs.Reflected.{Reflected, empty, node, groups, uppers}
use Rattle.reflected_tree.specs.Table2.{type_b, image, l_value, r_value, less, condition, table2}
use Rattle.reflected_tree.specs.Ancestry.{over, kin, by_ancestry}
use Rattle.reflected_tree.proofs.Groups.{parts, uppers_positive, uppers_times}
use Rattle.reflected_tree.proofs.Conditions.{own_image}
use Rattle.reflected_tree.proofs.Positions.{image_upper, image_in, low_before, Place, top, bottom, inside, beyond, place, image_top, image_bottom, image_inside, image_beyond, up_c, up_r}

-- the lower id of the node with the upper id m
lower_at : Reflected → ℕ → ℕ
lower_at empty m = 0
lower_at (node u l c r) m = cond (eqb m u) l (cond (has m (pre_l (uppers c))) (lower_at c m) (lower_at r m))

-- the mirror image's mirror image
lower_image : (x : ℕ) (t : Reflected) → Distinct (groups t) → times x (groups t) ≡ 1 → type_b t x ≡ true → lower_at t (image t x) ≡ x
unfolding lower_at
lower_image x empty d h b = absurd (omega arith)
lower_image x (node u l c r) d h b =
    go (place x u l c r h) (lower_image x c (λ z. omega (arith, parts (one_at z) u l c r, d z))) (lower_image x r (λ z. omega (arith, parts (one_at z) u l c r, d z)))
  where
    go : Place x u l c r → (times x (groups c) ≡ 1 → type_b c x ≡ true → lower_at c (image c x) ≡ x)
        → (times x (groups r) ≡ 1 → type_b r x ≡ true → lower_at r (image r x) ≡ x)
        → lower_at (node u l c r) (image (node u l c r) x) ≡ x
    go (top e nc nl nr) ihc ihr = absurd (true≢false (sym b ∙ (image_top x u l c r nc nl nr).0))
    go (bottom e nc nl nr) ihc ihr = rw ((image_bottom x u l c r nl).1, eqb_same u) (sym (low_before x l c nl).0)
    go (inside e nc nl nr) ihc ihr =
        let i = image_inside x u l c r nl nr in
        let k = up_c x u l c r d (image c x) (image_in x c nc) in
        rw (i.1, k.0, le-leb 1 (times (image c x) (pre_l (uppers c))) (omega (arith, k.1))) (ihc nc (sym i.0 ∙ b))
    go (beyond e nc nl nr) ihc ihr =
        let i = image_beyond x u l c r nc nl in
        let k = up_r x u l c r d (image r x) (image_in x r nr) in
        rw (i.1, k.0, lt-leb 1 (times (image r x) (pre_l (uppers c))) (omega (arith, k.1))) (ihr nr (sym i.0 ∙ b))

-- two places of a sequence that lie apart: no later is earlier
strictly : (a q b p : ℕ) → Clear a q b p → 1 ≤ q → 1 ≤ p → leb a b ≡ ltb (1 + a) (1 + b)
strictly a q b p (inl h) j k = le-leb a b (omega arith) ∙ sym (lt-ltb (1 + a) (1 + b) (omega arith))
strictly a q b p (inr h) j k = lt-leb a b (omega arith) ∙ sym (le-ltb (1 + a) (1 + b) (omega arith))

apart_ne : (a q b p : ℕ) → Clear a q b p → 1 ≤ q → 1 ≤ p → (1 + a ≡ 1 + b) → ⊥
apart_ne a q b p (inl h) j k e = omega arith
apart_ne a q b p (inr h) j k e = omega arith

-- two nodes of a forest
module _ (f : Forest) (pos : Positive (pre_l f)) (m k : ℕ) (hm : times m (pre_l f) ≡ 1) (hk : times k (pre_l f) ≡ 1) where
  ancestor : above f m k ≡ (leb (before m (pre_l f)) (before k (pre_l f)) && leb (before m (pre_r f)) (before k (pre_r f)))
  ancestor = tree_order_lem upright f m k pos hm hk

  right_once : (z : ℕ) → times z (pre_l f) ≡ 1 → times z (pre_r f) ≡ 1
  right_once z h = same_pre_r f (one_at z) ∙ h

  right_positive : Positive (pre_r f)
  right_positive = same_pre_r f no_quota ∙ pos

  some : (z : ℕ) → times z (pre_l f) ≡ 1 → (1 ≤ quota_of z (pre_l f)) × (1 ≤ quota_of z (pre_r f))
  some z h = (omega (arith, positive_quota z (pre_l f) pos), omega (arith, positive_quota z (pre_r f) right_positive, right_once z h))

  proper : m ≢ k → above f m k ≡ less (1 + before m (pre_l f)) (1 + before m (pre_r f)) (1 + before k (pre_l f)) (1 + before k (pre_r f))
  proper n =
      ancestor
      ∙ ap₂ (λ a b. a && b)
      (strictly _ _ _ _ (apart m k (pre_l f) n hm hk) (some m hm).0 (some k hk).0)
      (strictly _ _ _ _ (apart m k (pre_r f) n (right_once m hm) (right_once k hk)) (some m hm).1 (some k hk).1)

  unequal : m ≢ k → (1 + before m (pre_l f) ≡ 1 + before k (pre_l f)) → ⊥
  unequal n = apart_ne _ _ _ _ (apart m k (pre_l f) n hm hk) (some m hm).0 (some k hk).0

  itself : m ≡ k → above f m k ≡ true
  itself e = ancestor ∙ rw (e, le-leb (before k (pre_l f)) (before k (pre_l f)) (omega arith), le-leb (before k (pre_r f)) (before k (pre_r f)) (omega arith))

module _ (t : Reflected) (x y : ℕ) (d : Distinct (groups t)) (hx : times x (groups t) ≡ 1) (hy : times y (groups t) ≡ 1) where
  once : (z : ℕ) → times z (groups t) ≡ 1 → times (image t z) (pre_l (uppers t)) ≡ 1
  once z h = omega (arith, image_in z t h, uppers_times (image t z) t, d (image t z))

  abbrev lx : ℕ
  lx = l_value t x

  abbrev rx : ℕ
  rx = r_value t x

  abbrev ly : ℕ
  ly = l_value t y

  abbrev ry : ℕ
  ry = r_value t y

  abbrev Kin : Bool → Bool → Type 0
  Kin a b = kin a b (over t x y) (over t y x) ≡ (eqb x y || condition a b lx rx ly ry)

  -- the same node
  one_node : image t x ≡ image t y → (a b : Bool) → type_b t x ≡ a → type_b t y ≡ b → Kin a b
  one_node e false false p q =
      let j : x ≡ y = sym (image_upper x t p) ∙ e ∙ image_upper y t q in
      rw (itself (uppers t) (uppers_positive t) (image t x) (image t y) (once x hx) (once y hy) e, eq-eqb x y j)
  one_node e false true p q =
      rw (
        itself (uppers t) (uppers_positive t) (image t x) (image t y) (once x hx) (once y hy) e,
        own_image false true lx rx ly ry refl refl
            (ap (λ m. 1 + before m (pre_l (uppers t))) e) (ap (λ m. 1 + before m (pre_r (uppers t))) e),
      )
      (sym (or-true (eqb x y)))
  one_node e true false p q = rw (ne_eqb x y (λ j. true≢false (sym p ∙ ap (type_b t) j ∙ q)))
  one_node e true true p q =
      let j : x ≡ y = sym (lower_image x t d hx p) ∙ ap (lower_at t) e ∙ lower_image y t d hy q in
      rw (itself (uppers t) (uppers_positive t) (image t y) (image t x) (once y hy) (once x hx) (sym e), eq-eqb x y j)

  -- two nodes
  two_nodes : image t x ≢ image t y → (a b : Bool) → Kin a b
  two_nodes n a b =
      rw (
        ne_eqb x y (λ e. n (ap (image t) e)),
        proper (uppers t) (uppers_positive t) (image t x) (image t y) (once x hx) (once y hy) n,
        proper (uppers t) (uppers_positive t) (image t y) (image t x) (once y hy) (once x hx) (λ e. n (sym e)),
      )
      (go a b)
    where
      go : (a b : Bool) → kin a b (less lx rx ly ry) (less ly ry lx rx) ≡ condition a b lx rx ly ry
      go false false = refl
      go false true =
          rw (ne_eqb ly lx (unequal (uppers t) (uppers_positive t) (image t y) (image t x) (once y hy) (once x hx) (λ e. n (sym e))))
          (ap (λ k. less lx rx ly ry || k) (sym (or-false (less ly ry lx rx))))
      go true false = refl
      go true true = refl

  pub by_ancestry_lem : table2 t x y ≡ by_ancestry t x y
  unfolding table2 by_ancestry
  by_ancestry_lem =
      sym (by_eq (image t x) (image t y) (λ e. one_node e (type_b t x) (type_b t y) refl refl) (λ n. two_nodes n (type_b t x) (type_b t y)))
