-- Reading a node's tree and trees, step by step: 32, then 5, then the node, then the trees below it; a first tree, then the others.
use mathlib.Core.Path.{◌≡◌, refl, ap, ◌∙◌}
use mathlib.Core.List.{List}
use Prim.Native.Nat.{ℕ, zero, suc, ◌+◌, ◌-◌, ◌≤◌, ◌<◌}
use native.Mathlib.Omega.{arith}
use native.Mathlib.Numerals.{sub-one}
use borrow.Author.Tests.{lt-ltb, le-ltb}
use Rattle.rules.specs.Answers.{answer, refused, then}
use Rattle.request.specs.Entries.{entry}
use Rattle.request.specs.Forest.{none}
use Rattle.request.specs.declared.EntryRead.{EntryRead}
use Rattle.request.specs.Reading.{trees_by, tree_by}
use Rattle.request.proofs.TreeSteps.{beside}
use Rattle.reflected_tree.specs.Reading.{node_at, node_left, node_tree_at, node_trees_at}

none_left : (n used : ℕ) → n ≤ used → node_left n used ≡ refused 32
unfolding node_left
none_left n used l = rw (le-ltb used n l)

module _ (n : ℕ) (bytes : List ℕ) where
  -- 32 at any depth
  pub node_full : (room at used : ℕ) → n ≤ used → node_tree_at n room bytes at used ≡ refused 32
  unfolding tree_by
  node_full zero at used l = ap (λ a. then a (λ _. refused 5)) (none_left n used l)
  node_full (suc room) at used l = rw (none_left n used l)

  pub node_deep : (room at used : ℕ) → used < n → room ≡ 0 → node_tree_at n room bytes at used ≡ refused 5
  unfolding tree_by node_left
  node_deep zero at used l z = rw (lt-ltb used n l)
  node_deep (suc room) at used l z = absurd (omega arith)

  pub node_cut : (room at used : ℕ) → used < n → (room ≡ 0 → ⊥) → {k : ℕ} → node_at bytes at ≡ refused k → node_tree_at n room bytes at used ≡ refused k
  unfolding tree_by node_left
  node_cut zero at used l z e = absurd (z refl)
  node_cut (suc room) at used l z e = rw (lt-ltb used n l, e)

  -- a node, and the trees below it
  pub node_below : (room at used : ℕ) → used < n → (room ≡ 0 → ⊥) → {e : EntryRead} → node_at bytes at ≡ answer e
      → node_tree_at n room bytes at used
      ≡ then (node_trees_at n (room - 1) e.children bytes e.next (used + 1)) (λ c. answer (record { root = entry e.id e.quota; children = c.trees; next = c.next; used = c.used }))
  unfolding node_trees_at tree_by node_left
  node_below zero at used l z e = absurd (z refl)
  node_below (suc room) at used l z e = rw (lt-ltb used n l, e, sub-one (suc room))

  pub below_refused : (room at used : ℕ) → used < n → (room ≡ 0 → ⊥) → {e : EntryRead} → node_at bytes at ≡ answer e → {k : ℕ}
      → node_trees_at n (room - 1) e.children bytes e.next (used + 1) ≡ refused k → node_tree_at n room bytes at used ≡ refused k
  below_refused room at used l z e h = node_below room at used l z e ∙ rw h

  pub nodes_none : (room trees at used : ℕ) → trees ≤ 0 → node_trees_at n room trees bytes at used ≡ answer (record { trees = none; next = at; used = used })
  unfolding node_trees_at trees_by
  nodes_none room zero at used h = refl
  nodes_none room (suc m) at used h = absurd (omega arith)

  -- a first tree, and the others
  pub nodes_more : (room trees at used : ℕ) → 0 < trees
      → node_trees_at n room trees bytes at used
      ≡ then (node_tree_at n room bytes at used) (λ t. then (node_trees_at n room (trees - 1) bytes t.next t.used) (λ r. answer (beside t.root t.children r)))
  unfolding node_trees_at trees_by
  nodes_more room zero at used h = absurd (omega arith)
  nodes_more room (suc m) at used h = rw (sub-one (suc m))
