-- The nodes of trees by their places: what they give is what the trees give.
use Rattle.std.proofs.Common.{◌≡◌, ℕ, zero, suc, ◌+◌, ◌-◌, ◌*◌, ◌<◌, ◌≤◌, List, ◌++◌, length, refl, ap, sym, ◌∙◌, arith, subst, append_assoc}
use borrow.Author.Tests.{ne_eqb, lt-ltb}
use Rattle.std.proofs.Math.ListN.{get_or-append}
use Rattle.std.proofs.lemmas.List.{get_or-append-add, get_or-take}
use Rattle.rules.proofs.Cases.{by_lt, by_eq}
use Rattle.writer.specs.declared.Writer.{Writer}
use Rattle.writer.specs.Writing.{WroteAll}
use Rattle.request.specs.Entries.{entry}
use Rattle.request.specs.Forest.{none, tree}
use Rattle.reflected_tree.specs.Reflected.{Reflected, empty, node, group_count, ends_as, node_count}
use Rattle.reflected_tree.specs.Written.{roots, own_requests, requests_of, list_bytes}
use Rattle.reflected_tree.specs.Reading.{most_nodes}
use Rattle.reflected.specs.declared.nodes.Node.{Node}
use Rattle.reflected.specs.Inside.Nodes.{child_count, stored, Holds}
use Rattle.reflected.specs.Inside.Writing.{node_in, roots_at, own_at, sized_all, Walks, Sound, Stored}
use Rattle.reflected.proofs.Filling.{length_stored}
use Rattle.reflected.proofs.Written.{requests_at, list_of, list_most}

-- ## Each node at its place

abbrev pub node_of : ℕ → ℕ → ℕ → Reflected → Node
node_of i u l c = record { upper = u; lower = l; children = child_count c; groups = ends_as c; end = i + 1 + node_count c }

abbrev pub Stands : List Node → ℕ → Reflected → Type 0
Stands nodes i empty = Unit {0}
Stands nodes i (node u l c r) = (node_in nodes i ≡ node_of i u l c) × Stands nodes (i + 1) c × Stands nodes (i + 1 + node_count c) r

stands : (nodes : List Node) (i : ℕ) (t : Reflected) → ((k : ℕ) → k < node_count t → node_in nodes (i + k) ≡ node_in (stored i t) k) → Stands nodes i t
stands nodes i empty h = tt
stands nodes i (node u l c r) h =
    let sc = stored (i + 1) c in
    let sr = stored (i + 1 + node_count c) r in
    let n = length_stored (i + 1) c in
    let z : i + 0 ≡ i = omega arith in (
      rw z at (h 0 (omega arith)),
      stands nodes (i + 1) c
          (λ k l.
          let e : i + suc k ≡ i + 1 + k = omega arith in
          rw e at (h (suc k) (omega arith)) ∙ get_or-append sc sr _ k (omega arith)),
      stands nodes (i + 1 + node_count c) r
          (λ k l.
          let e : i + suc (node_count c + k) ≡ i + 1 + node_count c + k = omega arith in
          rw e at (h (suc (node_count c + k)) (omega arith)) ∙ ap (λ m. node_in (sc ++ sr) (m + k)) (sym n) ∙ get_or-append-add sc sr k _),
    )

pub stands_held : (nodes : List Node) (t : Reflected) → Holds nodes t → Stands nodes 0 t
stands_held nodes t h =
    stands nodes 0 t
    (λ k l.
    let e : 0 + k ≡ k = omega arith in
    ap (node_in nodes) e ∙ sym (get_or-take (node_count t) nodes k _ l) ∙ ap (λ s. node_in s k) h)

-- ## What the nodes give

module _ (nodes : List Node) where
  roots_stored : (i : ℕ) (t : Reflected) → Stands nodes i t → roots_at nodes i (child_count t) ≡ roots t
  roots_stored i empty h = refl
  roots_stored i (node u l c r) h = rw h.0 (ap (tree (entry u (ends_as c)) none) (roots_stored (i + 1 + node_count c) r h.2))

  -- all groups of a node with children but its own two
  but_two : (n : ℕ) → suc (n + 1) - 2 ≡ n
  but_two n = omega arith

  own_stored : (i u l : ℕ) (c : Reflected) → node_in nodes i ≡ node_of i u l c → Stands nodes (i + 1) c → own_at nodes i ≡ own_requests u l c
  unfolding own_at
  own_stored i u l empty e h = rw e
  own_stored i u l (node v m d empty) e h = rw (e, h.0, but_two (group_count (node v m d empty)))
  own_stored i u l (node v m d (node w k b s)) e h =
      let n = suc (suc (child_count s)) in
      let f : n ≡ 0 → ⊥ = λ z. omega arith in
      rw (e, ne_eqb n 0 f, lt-ltb 1 n (omega arith), roots_stored (i + 1) (node v m d (node w k b s)) h, h.0, but_two (group_count (node v m d (node w k b s))))

  requests_both : (i n m : ℕ) → requests_at nodes i (n + m) ≡ requests_at nodes i n ++ requests_at nodes (i + n) m
  requests_both i zero m =
      let e : 0 + m ≡ m = omega arith in
      let f : i + 0 ≡ i = omega arith in
      rw (e, f)
  requests_both i (suc n) m =
      let e : suc n + m ≡ suc (n + m) = omega arith in
      let f : i + suc n ≡ i + 1 + n = omega arith in
      rw (e, f, requests_both (i + 1) n m) (sym (append_assoc (own_at nodes i) (requests_at nodes (i + 1) n) (requests_at nodes (i + 1 + n) m)))

  pub requests_stored : (i : ℕ) (t : Reflected) → Stands nodes i t → requests_at nodes i (node_count t) ≡ requests_of t
  requests_stored i empty h = refl
  requests_stored i (node u l c r) h =
      rw (own_stored i u l c h.0 h.1, requests_both (i + 1) (node_count c) (node_count r), requests_stored (i + 1) c h.1, requests_stored (i + 1 + node_count c) r h.2)

  -- ## Sound nodes

  walks_stored : (i : ℕ) (t : Reflected) → Stands nodes i t → i + node_count t ≤ length nodes → Walks nodes i (child_count t)
  walks_stored i empty h m = tt
  walks_stored i (node u l c r) h m = (omega arith, rw h.0 (walks_stored (i + 1 + node_count c) r h.2 (omega arith)))

  children_few : (t : Reflected) → child_count t ≤ node_count t
  children_few empty = omega arith
  children_few (node u l c r) = omega (arith, children_few r)

  groups_some : (c : Reflected) → 1 ≤ child_count c → 2 ≤ ends_as c
  groups_some empty h = absurd (omega arith)
  groups_some (node u l c r) h = omega arith

  sound_here : (i u l : ℕ) (c : Reflected) → node_in nodes i ≡ node_of i u l c → Stands nodes (i + 1) c → i + 1 + node_count c ≤ length nodes → node_count c ≤ most_nodes → Sound nodes i
  sound_here i u l c e h m n =
      record {
        place = omega arith;
        groups = λ k. rw e (groups_some c (rw e at k));
        few = rw e (omega (arith, children_few c));
        children = rw e (walks_stored (i + 1) c h m);
      }

  pub sound_stored : (i : ℕ) (t : Reflected) → Stands nodes i t → i + node_count t ≤ length nodes → node_count t ≤ most_nodes
      → (j : ℕ) → i ≤ j → j < i + node_count t → Sound nodes j
  sound_stored i empty h m n j a b = absurd (omega arith)
  sound_stored i (node u l c r) h m n j a b =
      by_eq j i
      (λ e. rw e (sound_here i u l c h.0 h.1 (omega arith) (omega arith)))
      (λ ne. by_lt j (i + 1 + node_count c)
      (λ k. sound_stored (i + 1) c h.1 (omega arith) (omega arith) j (omega arith) k)
      (λ k. sound_stored (i + 1 + node_count c) r h.2 (omega arith) (omega arith) j k (omega arith)))

  -- ## The whole tree

  pub sound_all : {count : ℕ} → Stored nodes count → length nodes ≡ most_nodes → (i : ℕ) → i < count → Sound nodes i
  sound_all s n i h =
      let m = s.size in
      let k = s.most in
      sound_stored 0 s.tree (stands_held nodes s.tree s.held) (omega arith) (omega arith) i (omega arith) (omega arith)

  list_one : {count : ℕ} (t : Reflected) → child_count t ≡ 1 → node_count t ≡ count → Stands nodes 0 t → list_of nodes count ≡ list_bytes t
  unfolding list_of sized_all list_bytes
  list_one empty e m h = absurd (omega arith)
  list_one (node u l c empty) e m h =
      let n : ends_as c + 0 ≡ ends_as c = omega arith in
      rw (← m, requests_stored 0 (node u l c empty) h, h.0, n)
  list_one (node u l c (node v k d r)) e m h = absurd (omega arith)

  -- the list over the stored nodes is the tree's
  pub list_stored : {count : ℕ} (s : Stored nodes count) → list_of nodes count ≡ list_bytes s.tree
  list_stored s = list_one s.tree s.one s.size (stands_held nodes s.tree s.held)

  -- written, it is the tree's that is written
  pub list_written : {count : ℕ} {old new : Writer} → WroteAll old new (list_of nodes count) → (s : Stored nodes count) → WroteAll old new (list_bytes s.tree)
  list_written {count} {old} {new} w s = subst (WroteAll old new) (list_stored s) w

  pub list_count : {count : ℕ} (s : Stored nodes count) → length (list_of nodes count) ≡ length (list_bytes s.tree)
  list_count s = ap length (list_stored s)

  pub list_few : {count : ℕ} → Stored nodes count → length nodes ≡ most_nodes → length (list_of nodes count) ≤ 60 + 1045 * count
  list_few {count} s n = list_most nodes count (sound_all s n)
