-- A tree's bytes, step by step: the number of nodes, the nodes, and then the end.
use mathlib.Core.Path.{◌≡◌, refl, sym, ◌∙◌, subst}
use mathlib.Core.Bool.{Bool, true, false, cond}
use mathlib.Core.List.{List}
use Prim.Native.Nat.{ℕ, ◌≤◌, ◌<◌}
use native.Mathlib.Omega.{arith}
use lib.Dec.{eqb, ltb}
use lib.ListN.{length}
use borrow.Author.Tests.{eqb-false, ltb-false, lt-ltb, le-ltb}
use Rattle.rules.specs.Answers.{Answer, answer, refused, then}
use Rattle.rules.specs.Limits.{greatest_depth}
use Rattle.rules.proofs.Bools.{or_none}
use Rattle.rules.proofs.Answers.{same_answer, never_refused, then_refused}
use Rattle.number.specs.declared.Number.{Number}
use Rattle.number.specs.Number.{number_at}
use Rattle.request.specs.Reading.{TreesRead}
use Rattle.reflected_tree.specs.Reflected.{Reflected, node_count}
use Rattle.reflected_tree.specs.Reading.{most_nodes, node_count_bad, reflected_from, node_trees_at, tree_of, id_repeats, reflected_of}
use Rattle.reflected.specs.declared.nodes.Node.{Node}
use Rattle.reflected.specs.declared.reading.End.{End}
use Rattle.reflected.specs.Inside.Nodes.{Holds}
use Rattle.reflected.specs.Inside.Reading.{walk_end, Filled, Walked, TreeIn}
use Rattle.reflected.proofs.Filling.{take_sets, length_stored}
use Rattle.reflected.proofs.Walking.{walk_found}

-- what is said of a tree: the number of its nodes, and that they stand in the places
abbrev pub Said : Answer Reflected → Answer ℕ → List Node → Type 0
Said found a nodes = (a ≡ then found (λ t. answer (node_count t))) × ((t : Reflected) → found ≡ answer t → TreeIn nodes t)

pub no_tree : {found : Answer Reflected} {k : ℕ} (nodes : List Node) → found ≡ refused k → Said found (refused k) nodes
no_tree nodes e = (rw e, λ t h. never_refused (sym e ∙ h))

one_tree : {found : Answer Reflected} {n : ℕ} {t : Reflected} (nodes : List Node) → found ≡ answer t → node_count t ≡ n → TreeIn nodes t → Said found (answer n) nodes
one_tree nodes e c h = (rw (e, c), λ t k. subst (TreeIn nodes) (same_answer (sym e ∙ k)) h)

-- a number of nodes that is not refused
pub fine_count : (n : ℕ) → node_count_bad n ≡ false → (n ≡ 0 → ⊥) × (n ≤ most_nodes)
fine_count n h = let b = or_none (eqb n 0) (ltb most_nodes n) h in (eqb-false n 0 b.0, ltb-false most_nodes n b.1)

module _ (bytes : List ℕ) where
  abbrev of_nodes : ℕ → ℕ → Answer Reflected
  of_nodes n at =
      then (node_trees_at n greatest_depth 1 bytes at 0) λ t.
      cond (ltb t.used n) (refused 32) (cond (ltb t.next (length bytes)) (refused 6) (answer (reflected_from t.trees)))

  pub tree_cut : {k : ℕ} → number_at bytes 0 ≡ refused k → tree_of bytes ≡ refused k
  unfolding tree_of
  tree_cut e = rw e

  module _ {n : Number} (e : number_at bytes 0 ≡ answer n) where
    pub count_bad : node_count_bad n.value ≡ true → tree_of bytes ≡ refused 32
    unfolding tree_of
    count_bad h = rw (e, h)

    module _ (fine : node_count_bad n.value ≡ false) where
      tree_nodes : tree_of bytes ≡ of_nodes n.value n.next
      unfolding tree_of
      tree_nodes = rw (e, fine)

      pub nodes_cut : {k : ℕ} → node_trees_at n.value greatest_depth 1 bytes n.next 0 ≡ refused k → tree_of bytes ≡ refused k
      nodes_cut f = tree_nodes ∙ rw f

      nodes_whole : {t : TreesRead} → node_trees_at n.value greatest_depth 1 bytes n.next 0 ≡ answer t → n.value ≤ t.used → length bytes ≤ t.next
          → tree_of bytes ≡ answer (reflected_from t.trees)
      nodes_whole {t} f u l = tree_nodes ∙ rw (f, le-ltb t.used n.value u, le-ltb t.next (length bytes) l)

      module _ {x : End} (f : answer x ≡ walk_end (node_trees_at n.value greatest_depth 1 bytes n.next 0)) where
        pub nodes_left : x.used < n.value → tree_of bytes ≡ refused 32
        nodes_left l =
            let t = walk_found (node_trees_at n.value greatest_depth 1 bytes n.next 0) f in
            tree_nodes ∙ rw (t.1, lt-ltb t.0.used n.value (omega (arith, t.3)))

        pub remain : n.value ≤ x.used → x.next < length bytes → tree_of bytes ≡ refused 6
        remain u l =
            let t = walk_found (node_trees_at n.value greatest_depth 1 bytes n.next 0) f in
            tree_nodes ∙ rw (t.1, le-ltb t.0.used n.value (omega (arith, t.3)), lt-ltb t.0.next (length bytes) (omega (arith, t.2)))

        pub whole : n.value ≤ x.used → length bytes ≤ x.next → (old new : List Node) → most_nodes ≤ length old
            → Walked 1 0 n.value old new (node_trees_at n.value greatest_depth 1 bytes n.next 0) → Said (tree_of bytes) (answer n.value) new
        whole u l old new long h =
            let t = walk_found (node_trees_at n.value greatest_depth 1 bytes n.next 0) f in
            let s : Filled 1 0 n.value old new t.0 = subst (λ a. Walked 1 0 n.value old new a) t.1 h in
            let m = reflected_from t.0.trees in
            let is = nodes_whole t.1 (omega (arith, t.3)) (omega (arith, t.2)) in
            let k = fine_count n.value fine in
            let counted : n.value ≡ node_count m = omega (arith, s.used_is, s.most, t.3) in
            let holds : Holds new m = rw (s.places, ← (length_stored 0 m)) (take_sets old _ (omega (arith, length_stored 0 m))) in
            one_tree new is (sym counted) (record { holds = holds; single = s.trees_are; some = omega arith; most = omega arith })

-- ## The tree's ids

-- what the number of nodes says of the tree
counted : (found : Answer Reflected) {n : ℕ} → answer n ≡ then found (λ t. answer (node_count t)) → (t : Reflected) × (found ≡ answer t) × (node_count t ≡ n)
counted (answer t) e = (t, refl, same_answer (sym e))
counted (refused k) e = never_refused (sym e)

pub not_counted : (found : Answer Reflected) {k : ℕ} → refused k ≡ then found (λ t. answer (node_count t)) → found ≡ refused k
not_counted found e = then_refused found _ (sym e)

-- the tree that a number of nodes is said of
pub said_tree : {found : Answer Reflected} {n : ℕ} {nodes : List Node} → Said found (answer n) nodes
    → (t : Reflected) × (found ≡ answer t) × (node_count t ≡ n) × TreeIn nodes t
said_tree {found} said = let t = counted found said.0 in (t.0, t.1, t.2, said.1 t.0 t.1)

module _ (bytes : List ℕ) where
  pub no_ids : {k : ℕ} → tree_of bytes ≡ refused k → reflected_of bytes ≡ refused k
  unfolding reflected_of
  no_ids e = rw e

  module _ {n : ℕ} {nodes : List Node} (said : Said (tree_of bytes) (answer n) nodes) where
    pub within : n ≤ most_nodes
    within = let t = said_tree said in omega (arith, t.2, t.3.most)

    module _ (b : Bool) (is : (t : Reflected) → Holds nodes t → node_count t ≡ n → b ≡ id_repeats t) where
      judged : (t : Reflected) → tree_of bytes ≡ answer t → Holds nodes t → node_count t ≡ n → reflected_of bytes ≡ cond b (refused 33) (answer t)
      unfolding reflected_of
      judged t e h c = rw (e, is t h c)

      pub repeated : b ≡ true → Said (reflected_of bytes) (refused 33) nodes
      repeated h = let t = said_tree said in no_tree nodes (judged t.0 t.1 t.3.holds t.2 ∙ rw h)

      pub unrepeated : b ≡ false → Said (reflected_of bytes) (answer n) nodes
      unrepeated h = let t = said_tree said in one_tree nodes (judged t.0 t.1 t.3.holds t.2 ∙ rw h) t.2 t.3
