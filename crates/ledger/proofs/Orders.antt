-- The ledger's order after an accepted request, by cases: an entry, or another group of the old state.
use mathlib.Core.Path.{◌≡◌, refl}
use mathlib.Core.Bool.{Bool, true, false, not, ◌&&◌, ◌||◌, and-false, or-true, or-false}
use mathlib.Core.Logic.{◌≢◌}
use mathlib.Core.List.{◌++◌}
use Prim.Native.Nat.{ℕ, zero, suc, ◌+◌, ◌≤◌, ◌<◌}
use native.Mathlib.Omega.{arith}
use lib.Dec.{eqb}
use borrow.Author.Tests.{eq-eqb, ne_eqb, le-leb, lt-leb}
use Rattle.request.specs.Entries.{pick, one_at, times, has}
use Rattle.request.specs.Forest.{Forest, none, tree, Direction, upright, inverted, pre_l, above, tree_order}
use Rattle.request.specs.Request.{Request, entries}
use Rattle.rules.proofs.Cases.{by_eq}
use Rattle.request.proofs.Sums.{sum_append}
use Rattle.request.proofs.Trees.{above_none, none_above}
use Rattle.promises.specs.Theorems.{IsEntry}
use Rattle.ledger.specs.Ledger.{Ledger, is_other, stays_below, below_entries, above_entries, itself, by_trees, order_after}

-- an id that no entry has stands in no tree
tree_left : (d : Direction) (t : Forest) (x y : ℕ) → times x (pre_l t) ≡ 0 → tree_order d t x y ≡ false
tree_left upright t x y h = above_none t x y h
tree_left inverted t x y h = none_above t y x h

tree_right : (d : Direction) (t : Forest) (x y : ℕ) → times y (pre_l t) ≡ 0 → tree_order d t x y ≡ false
tree_right upright t x y h = none_above t x y h
tree_right inverted t x y h = above_none t y x h

-- an entry in its tree
in_either : (a b : Bool) (n m : ℕ) → (1 ≤ n → a ≡ true) → (1 ≤ m → b ≡ true) → 1 ≤ n + m → (a || b) ≡ true
in_either a b zero m f g h = rw (g (omega arith)) (or-true a)
in_either a b (suc n) m f g h = rw (f (omega arith))

above_itself : (t : Forest) (x : ℕ) → 1 ≤ times x (pre_l t) → above t x x ≡ true
above_itself none x h = absurd (omega arith)
above_itself (tree w c r) x h =
    (elim (eqb x w.id) as (λ b. 1 ≤ pick b 1 0 + times x (pre_l c ++ pre_l r) → ((b && (b || has x (pre_l c))) || (above c x x || above r x x)) ≡ true) [
      | true ↦ λ h. refl
      | false ↦ λ h.
          in_either (above c x x) (above r x x) (times x (pre_l c)) (times x (pre_l r)) (above_itself c x) (above_itself r x)
          (omega (arith, sum_append (one_at x) (pre_l c) (pre_l r)))
    ]) h

tree_itself : (d : Direction) (t : Forest) (x : ℕ) → 1 ≤ times x (pre_l t) → tree_order d t x x ≡ true
tree_itself upright t x h = above_itself t x h
tree_itself inverted t x h = above_itself t x h

-- what is asked of the old order and of the request
pub record Asked (q : Request) (g : Ledger) : Type 0 where
  pub once : times q.exploded (entries q) ≡ 1
  pub new : (x : ℕ) → x ≢ q.exploded → 1 ≤ times x (entries q) → times x g.groups ≡ 0
  pub below_known : (x y : ℕ) → times x g.groups ≡ 0 → g.order x y ≡ false
  pub above_known : (x y : ℕ) → times y g.groups ≡ 0 → g.order x y ≡ false

-- an old group other than u; it is no entry
pub record Other (q : Request) (g : Ledger) (x : ℕ) : Type 0 where
  pub differs : x ≢ q.exploded
  pub known : 1 ≤ times x g.groups
  pub no_entry : times x (entries q) ≡ 0

module _ {q : Request} {g : Ledger} (h : Asked q g) where
  unknown_no_other : (x : ℕ) → times x g.groups ≡ 0 → is_other q g x ≡ false
  unfolding is_other
  unknown_no_other x k = let z : times x g.groups < 1 = omega arith in rw (lt-leb 1 (times x g.groups) z) (and-false (not (eqb x q.exploded)))

  entry_no_other : (x : ℕ) → IsEntry q x → is_other q g x ≡ false
  unfolding is_other
  entry_no_other x k = by_eq x q.exploded (λ e. rw (eq-eqb x q.exploded e)) (λ n. unknown_no_other x (h.new x n k))

  other_is : {x : ℕ} → Other q g x → is_other q g x ≡ true
  unfolding is_other
  other_is {x} o = rw (ne_eqb x q.exploded o.differs, le-leb 1 (times x g.groups) o.known)

  is_entry_lem : (x : ℕ) → IsEntry q x → has x (entries q) ≡ true
  is_entry_lem x k = le-leb 1 (times x (entries q)) k

  no_entry : (x : ℕ) → times x (entries q) ≡ 0 → has x (entries q) ≡ false
  no_entry x k = lt-leb 1 (times x (entries q)) (omega arith)

  -- an entry and itself
  itself_trees : (x y : ℕ) → IsEntry q x → (itself q x y || by_trees q x y) ≡ tree_order q.direction q.trees x y
  unfolding itself by_trees
  itself_trees x y k =
      by_eq x y (λ e. rw (← e, tree_itself q.direction q.trees x k) (or-true (has x (entries q) && eqb x x)))
      (λ n. rw (ne_eqb x y n, and-false (has x (entries q))))

  itself_right : (x y : ℕ) → times y (entries q) ≡ 0 → itself q x y ≡ false
  unfolding itself
  itself_right x y e = by_eq x y (λ k. rw (k, no_entry y e)) (λ k. rw (ne_eqb x y k) (and-false (has x (entries q))))

  -- two old groups other than u
  pub others_after : (x y : ℕ) → Other q g x → Other q g y → order_after q g x y ≡ g.order x y
  unfolding order_after stays_below below_entries above_entries itself by_trees
  others_after x y o p =
      rw (ne_eqb x q.exploded o.differs, ne_eqb y q.exploded p.differs, other_is o, other_is p, no_entry x o.no_entry, no_entry y p.no_entry)
      (rw (tree_left q.direction q.trees x y o.no_entry) (or-false (g.order x y)))

  -- an entry, or an id that the ledger does not know, has no old pairs
  stays_unknown : (x y : ℕ) → g.order x y ≡ false → stays_below q g x y ≡ false
  unfolding stays_below
  stays_unknown x y e = rw (e, and-false (not (eqb y q.exploded)), and-false (not (eqb x q.exploded)))

  stays_left : (x y : ℕ) → IsEntry q x → stays_below q g x y ≡ false
  unfolding stays_below
  stays_left x y k = by_eq x q.exploded (λ e. rw (eq-eqb x q.exploded e)) (λ n. stays_unknown x y (h.below_known x y (h.new x n k)))

  stays_right : (x y : ℕ) → IsEntry q y → stays_below q g x y ≡ false
  unfolding stays_below
  stays_right x y k =
      by_eq y q.exploded (λ e. rw (eq-eqb y q.exploded e) (and-false (not (eqb x q.exploded))))
      (λ n. stays_unknown x y (h.above_known x y (h.new y n k)))

  -- two entries; an entry and an old group
  pub entries_after_lem : (x y : ℕ) → IsEntry q x → IsEntry q y → order_after q g x y ≡ tree_order q.direction q.trees x y
  unfolding order_after below_entries above_entries
  entries_after_lem x y hx hy = rw (stays_left x y hx, entry_no_other x hx, entry_no_other y hy) (itself_trees x y hx)

  pub entry_other : (x y : ℕ) → IsEntry q x → Other q g y → order_after q g x y ≡ g.order q.exploded y
  unfolding order_after below_entries above_entries by_trees
  entry_other x y hx o =
      rw (stays_left x y hx, entry_no_other x hx, other_is o, is_entry_lem x hx, itself_right x y o.no_entry, tree_right q.direction q.trees x y o.no_entry)
      (or-false (g.order q.exploded y))

  pub other_entry : (x y : ℕ) → Other q g x → IsEntry q y → order_after q g x y ≡ g.order x q.exploded
  unfolding order_after below_entries above_entries itself by_trees
  other_entry x y o hy =
      rw (stays_right x y hy, other_is o, is_entry_lem y hy, entry_no_other y hy, no_entry x o.no_entry, tree_left q.direction q.trees x y o.no_entry)
      (or-false (g.order x q.exploded))

  -- an id that is neither
  pub left_unknown : (x y : ℕ) → times x g.groups ≡ 0 → times x (entries q) ≡ 0 → order_after q g x y ≡ false
  unfolding order_after below_entries above_entries itself by_trees
  left_unknown x y k e =
      rw (stays_unknown x y (h.below_known x y k), unknown_no_other x k, no_entry x e, and-false (is_other q g y), tree_left q.direction q.trees x y e)

  pub right_unknown : (x y : ℕ) → times y g.groups ≡ 0 → times y (entries q) ≡ 0 → order_after q g x y ≡ false
  unfolding order_after below_entries above_entries by_trees
  right_unknown x y k e =
      rw (stays_unknown x y (h.above_known x y k), unknown_no_other y k, no_entry y e, and-false (is_other q g x), itself_right x y e)
      (tree_right q.direction q.trees x y e)
