-- Reading a tree and trees, step by step: 7, then 5, then the entry, then the trees below it; a first tree, then the others.
use mathlib.Core.Path.{◌≡◌, refl, ap, ◌∙◌}
use mathlib.Core.List.{List}
use Prim.Native.Nat.{ℕ, zero, suc, ◌+◌, ◌-◌, ◌≤◌, ◌<◌}
use native.Mathlib.Omega.{arith}
use native.Mathlib.Numerals.{sub-one}
use borrow.Author.Tests.{lt-ltb, le-ltb}
use Rattle.rules.specs.Answers.{answer, refused, then}
use Rattle.rules.specs.Limits.{most_entries}
use Rattle.request.specs.Entries.{Entry, entry}
use Rattle.request.specs.Forest.{Forest, none, tree}
use Rattle.request.specs.declared.EntryRead.{EntryRead}
use Rattle.request.specs.Reading.{entry_at, TreesRead, trees_by, tree_by, not_full, tree_at, trees_at}

-- a tree and the trees to its right
abbrev pub beside : Entry → Forest → TreesRead → TreesRead
beside e c r = record { trees = tree e c r.trees; next = r.next; used = r.used }

full : (used : ℕ) → most_entries ≤ used → not_full used ≡ refused 7
unfolding not_full
full used l = rw (le-ltb used most_entries l)

module _ (bytes : List ℕ) where
  -- 7 at any depth
  pub tree_full : (room at used : ℕ) → most_entries ≤ used → tree_at room bytes at used ≡ refused 7
  unfolding tree_by
  tree_full zero at used l = ap (λ a. then a (λ _. refused 5)) (full used l)
  tree_full (suc room) at used l = rw (full used l)

  pub tree_deep : (room at used : ℕ) → used < most_entries → room ≡ 0 → tree_at room bytes at used ≡ refused 5
  unfolding tree_by not_full
  tree_deep zero at used l z = rw (lt-ltb used most_entries l)
  tree_deep (suc room) at used l z = absurd (omega arith)

  pub tree_cut : (room at used : ℕ) → used < most_entries → (room ≡ 0 → ⊥) → {k : ℕ} → entry_at bytes at ≡ refused k → tree_at room bytes at used ≡ refused k
  unfolding tree_by not_full
  tree_cut zero at used l z e = absurd (z refl)
  tree_cut (suc room) at used l z e = rw (lt-ltb used most_entries l, e)

  -- an entry, and the trees below it
  pub tree_below : (room at used : ℕ) → used < most_entries → (room ≡ 0 → ⊥) → {e : EntryRead} → entry_at bytes at ≡ answer e
      → tree_at room bytes at used
      ≡ then (trees_at (room - 1) e.children bytes e.next (used + 1)) (λ c. answer (record { root = entry e.id e.quota; children = c.trees; next = c.next; used = c.used }))
  unfolding trees_at tree_by not_full
  tree_below zero at used l z e = absurd (z refl)
  tree_below (suc room) at used l z e = rw (lt-ltb used most_entries l, e, sub-one (suc room))

  pub below_refused : (room at used : ℕ) → used < most_entries → (room ≡ 0 → ⊥) → {e : EntryRead} → entry_at bytes at ≡ answer e → {k : ℕ}
      → trees_at (room - 1) e.children bytes e.next (used + 1) ≡ refused k → tree_at room bytes at used ≡ refused k
  below_refused room at used l z e h = tree_below room at used l z e ∙ rw h

  pub trees_none : (room n at used : ℕ) → n ≤ 0 → trees_at room n bytes at used ≡ answer (record { trees = none; next = at; used = used })
  unfolding trees_at trees_by
  trees_none room zero at used h = refl
  trees_none room (suc n) at used h = absurd (omega arith)

  -- a first tree, and the others
  pub trees_more : (room n at used : ℕ) → 0 < n
      → trees_at room n bytes at used
      ≡ then (tree_at room bytes at used) (λ t. then (trees_at room (n - 1) bytes t.next t.used) (λ r. answer (beside t.root t.children r)))
  unfolding trees_at trees_by
  trees_more room zero at used h = absurd (omega arith)
  trees_more room (suc n) at used h = rw (sub-one (suc n))
