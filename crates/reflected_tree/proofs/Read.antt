-- What a reflected tree that was read promises: one root, at most 64 nodes, and ids that are numbers and don't repeat.
use mathlib.Core.Path.{◌≡◌, refl}
use mathlib.Core.Bool.{false}
use mathlib.Core.List.{List}
use Prim.Native.Nat.{ℕ, zero, suc, ◌+◌, ◌≤◌, ◌<◌}
use native.Mathlib.Omega.{arith}
use lib.Dec.{eqb, ltb}
use lib.ListN.{length}
use borrow.Author.Tests.{eqb-false, ltb-true, ltb-false, ne_eqb}
use Rattle.rules.specs.Answers.{Answer, answer}
use Rattle.rules.specs.Limits.{greatest, greatest_depth}
use Rattle.rules.proofs.Answers.{same_answer, never_refused, peel, wanted, then_answer}
use Rattle.rules.proofs.Bools.{or_none}
use Rattle.number.specs.Number.{number_at}
use Rattle.request.specs.Entries.{entry, Distinct}
use Rattle.request.specs.declared.EntryRead.{EntryRead}
use Rattle.request.specs.Forest.{Forest, none, tree}
use Rattle.request.specs.Legal.{LegalNumber}
use Rattle.request.specs.Bytes.{tree_count}
use Rattle.request.specs.Reading.{positive_at, TreeRead, TreesRead, tree_by, trees_by}
use Rattle.reflected_tree.specs.Reflected.{Reflected, empty, node, node_count, groups}
use Rattle.reflected_tree.specs.Reading.{most_nodes, node_count_bad, lower_bad, node_at, node_left, node_tree_at, node_trees_at, reflected_from, id_repeats, tree_of, reflected_of}
use Rattle.reflected_tree.proofs.Distinct.{repeats_none}
use Rattle.reflected_tree.proofs.Numbers.{number_most, positive_legal}

-- the ids of a tree are numbers from 1 to the greatest; a leaf's lower id isn't one of them
abbrev pub LegalLower : ℕ → Reflected → Type 0
LegalLower l empty = Unit {0}
LegalLower l (node u m c r) = LegalNumber l

abbrev pub LegalIds : Reflected → Type 0
LegalIds empty = Unit {0}
LegalIds (node u l c r) = LegalNumber u × LegalLower l c × LegalIds c × LegalIds r

-- a node that was read
node_legal : (bytes : List ℕ) (at : ℕ) {e : EntryRead} → node_at bytes at ≡ answer e
    → LegalNumber e.id × (e.quota ≤ greatest) × (lower_bad e.quota e.children ≡ false)
unfolding node_at
node_legal bytes at h =
    let u = then_answer (positive_at bytes at) _ h in
    let l = then_answer (number_at bytes u.0.next) _ u.2 in
    let c = then_answer (number_at bytes l.0.next) _ l.2 in
    let b = peel (lower_bad l.0.value c.0.value) _ _ c.2 in
    rw (← (same_answer b.1)) (positive_legal bytes at u.1, number_most bytes u.0.next l.1, b.0)

lower_legal : (l : ℕ) (c : Forest) → l ≤ greatest → lower_bad l (tree_count c) ≡ false → LegalLower l (reflected_from c)
lower_legal l none h b = tt
lower_legal l (tree e c r) h b =
    let z : l ≡ 0 → ⊥ = eqb-false l 0 (rw (ne_eqb (suc (tree_count r)) 0 (λ e. omega arith)) at b) in
    (omega arith, h)

-- where a tree of n nodes is read: a tree with the trees below it, and k trees, where `used` nodes stand before them
record ReadTree (n used : ℕ) (t : TreeRead) : Type 0 where
  ids : LegalIds (node t.root.id t.root.quota (reflected_from t.children) empty)
  counted : t.used ≡ used + suc (node_count (reflected_from t.children))
  most : t.used ≤ n

record ReadTrees (n k used : ℕ) (a : TreesRead) : Type 0 where
  ids : LegalIds (reflected_from a.trees)
  counted : a.used ≡ used + node_count (reflected_from a.trees)
  most : used ≤ n → a.used ≤ n
  many : tree_count a.trees ≡ k

read_by : (n : ℕ) (one : ℕ → ℕ → Answer TreeRead) → ((at used : ℕ) (t : TreeRead) → one at used ≡ answer t → ReadTree n used t) → (k at used : ℕ) {a : TreesRead}
    → trees_by one k at used ≡ answer a → ReadTrees n k used a
unfolding trees_by
read_by n one first zero at used e = rw (← (same_answer e)) (record { ids = tt; counted = omega arith; most = λ h. h; many = refl })
read_by n one first (suc k) at used e =
    let t = then_answer (one at used) _ e in
    let r = then_answer (trees_by one k t.0.next t.0.used) _ t.2 in
    let h = first at used t.0 t.1 in
    let i = read_by n one first k t.0.next t.0.used r.1 in
    rw (← (same_answer r.2)) (record {
      ids = (h.ids.0, h.ids.1, h.ids.2, i.ids);
      counted = omega (arith, h.counted, i.counted);
      most = λ _. i.most h.most;
      many = omega (arith, i.many);
    })

read_tree : (n : ℕ) (bytes : List ℕ) (room at used : ℕ) (t : TreeRead) → node_tree_at n room bytes at used ≡ answer t → ReadTree n used t
unfolding tree_by node_left
read_tree n bytes zero at used t e = never_refused (then_answer (node_left n used) _ e).2
read_tree n bytes (suc room) at used t e =
    let f = then_answer (node_left n used) _ e in
    let v = then_answer (node_at bytes at) _ f.2 in
    let c = then_answer (trees_by (node_tree_at n room bytes) v.0.children v.0.next (used + 1)) _ v.2 in
    let g = node_legal bytes at v.1 in
    let i = read_by n (node_tree_at n room bytes) (λ p k s h. read_tree n bytes room p k s h) v.0.children v.0.next (used + 1) c.1 in
    let l : used < n = ltb-true _ _ (wanted (ltb used n) _ _ f.1).0 in
    let root = entry v.0.id v.0.quota in
    rw (← (same_answer {a = record { root = root; children = c.0.trees; next = c.0.next; used = c.0.used }} c.2)) (record {
      ids = (g.0, lower_legal v.0.quota c.0.trees g.1 (rw i.many g.2), i.ids, tt);
      counted = omega (arith, i.counted);
      most = i.most (omega arith);
    })

pub record Read (t : Reflected) : Type 0 where
  pub upper : ℕ
  pub lower : ℕ
  pub children : Reflected
  pub root : t ≡ node upper lower children empty
  pub ids : LegalIds (node upper lower children empty)
  pub few : node_count (node upper lower children empty) ≤ most_nodes
  pub distinct : Distinct (groups (node upper lower children empty))

-- one tree is a node with nothing to its right
one_read : (t : Forest) → tree_count t ≡ 1 → LegalIds (reflected_from t) → node_count (reflected_from t) ≤ most_nodes → Distinct (groups (reflected_from t)) → Read (reflected_from t)
one_read none h ids few d = absurd (omega arith)
one_read (tree e c none) h ids few d = record { upper = e.id; lower = e.quota; children = reflected_from c; root = refl; ids = ids; few = few; distinct = d }
one_read (tree e c (tree v d r)) h ids few g = absurd (omega arith)

pub reflected_read : (bytes : List ℕ) {t : Reflected} → reflected_of bytes ≡ answer t → Read t
unfolding reflected_of tree_of node_trees_at
reflected_read bytes h =
    let a = then_answer (tree_of bytes) _ h in
    let d = peel (id_repeats a.0) _ _ a.2 in
    let n = then_answer (number_at bytes 0) _ a.1 in
    let b = peel (node_count_bad n.0.value) _ _ n.2 in
    let s = then_answer (node_trees_at n.0.value greatest_depth 1 bytes n.0.next 0) _ b.1 in
    let p = peel (ltb s.0.used n.0.value) _ _ s.2 in
    let q = peel (ltb s.0.next (length bytes)) _ _ p.1 in
    let r = read_by n.0.value (node_tree_at n.0.value greatest_depth bytes) (read_tree n.0.value bytes greatest_depth) 1 n.0.next 0 s.1 in
    let m : n.0.value ≤ most_nodes = ltb-false most_nodes n.0.value (or_none (eqb n.0.value 0) (ltb most_nodes n.0.value) b.0).1 in
    let e : reflected_from s.0.trees ≡ a.0 = same_answer q.1 in
    rw (← (same_answer d.1), ← e) (one_read s.0.trees r.many r.ids (omega (arith, r.counted, r.most (omega arith))) (repeats_none (reflected_from s.0.trees) (rw e d.0)))
