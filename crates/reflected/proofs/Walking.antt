-- A walk over child counts: trees from a position on, put in the nodes' places one after another.
use mathlib.Core.Path.{◌≡◌, refl, ap, ap₂, sym, ◌∙◌, subst}
use mathlib.Core.List.{List, ◌∷◌, ◌++◌}
use Prim.Native.Nat.{ℕ, zero, suc, ◌+◌, ◌-◌, ◌*◌, ◌≤◌, ◌<◌}
use native.Mathlib.Omega.{arith}
use lib.ListN.{set}
use lib.Seq.{sets}
use Rattle.rules.specs.Answers.{Answer, answer, refused, then}
use Rattle.rules.proofs.Answers.{same_answer, never_refused, then_refused}
use Rattle.request.specs.Entries.{Entry, entry}
use Rattle.request.specs.Forest.{Forest, none}
use Rattle.request.specs.declared.EntryRead.{EntryRead}
use Rattle.request.specs.Reading.{TreesRead}
use Rattle.request.proofs.TreeSteps.{beside}
use Rattle.reflected_tree.specs.Reflected.{Reflected, empty, node, group_count, node_count, ends_as}
use Rattle.reflected_tree.specs.Reading.{reflected_from, node_at, node_tree_at, node_trees_at}
use Rattle.reflected_tree.proofs.Groups.{count_most}
use Rattle.reflected.specs.declared.nodes.Node.{Node}
use Rattle.reflected.specs.declared.reading.End.{End}
use Rattle.reflected.specs.Inside.Nodes.{child_count, stored}
use Rattle.reflected.specs.Inside.Reading.{own_groups, walk_end, Filled, Walked}
use Rattle.reflected.proofs.NodeSteps.{node_below, nodes_none, nodes_more}
use Rattle.reflected.proofs.Filling.{sets_append, sets_set, length_stored}

-- where the walk comes to with what is ahead, after so many groups
abbrev end_after : ℕ → Answer TreesRead → Answer End
end_after groups found = then found λ t. answer (record { next = t.next; used = t.used; groups = groups + group_count (reflected_from t.trees) })

-- after some trees: the walk ends as those that are left end it, and the places are filled as those that are left fill them
pub record Reading (bytes : List ℕ) (at trees room used count : ℕ) (w v : List Node) (place next groups left : ℕ) : Type 0 where
  pub ends : walk_end (node_trees_at count room trees bytes at used) ≡ end_after groups (node_trees_at count room left bytes place next)
  pub fills : (x : List Node) → Walked left next count v x (node_trees_at count room left bytes place next) → Walked trees used count w x (node_trees_at count room trees bytes at used)
  pub most : next ≤ count
  pub small : groups ≤ 2 * next

-- the trees below a node, once they are read
pub record Inner (bytes : List ℕ) (room children after next count : ℕ) (v u : List Node) (p end inner : ℕ) : Type 0 where
  pub read : TreesRead
  pub is : node_trees_at count (room - 1) children bytes after (next + 1) ≡ answer read
  pub next_is : read.next ≡ p
  pub end_is : read.used ≡ end
  pub groups_are : group_count (reflected_from read.trees) ≡ inner
  pub stored_in : Filled children (next + 1) count v u read

-- what the answer of a walk says of the trees
pub walk_found : (a : Answer TreesRead) {p e g : ℕ} → answer (record { next = p; used = e; groups = g }) ≡ walk_end a
    → (t : TreesRead) × (a ≡ answer t) × (t.next ≡ p) × (t.used ≡ e) × (group_count (reflected_from t.trees) ≡ g)
walk_found (answer t) e =
    let f = same_answer (sym e) in
    (t, refl, ap (λ (r : End). r.next) f, ap (λ (r : End). r.used) f, ap (λ (r : End). r.groups) f)
walk_found (refused n) e = never_refused (sym e)

pub walk_refused : (a : Answer TreesRead) {n : ℕ} → refused n ≡ walk_end a → a ≡ refused n
walk_refused a e = then_refused a _ (sym e)

pub inner_found : (bytes : List ℕ) (room children after next count : ℕ) (v u : List Node) (p end inner : ℕ)
    → answer (record { next = p; used = end; groups = inner }) ≡ walk_end (node_trees_at count (room - 1) children bytes after (next + 1))
    → Walked children (next + 1) count v u (node_trees_at count (room - 1) children bytes after (next + 1))
    → Inner bytes room children after next count v u p end inner
inner_found bytes room children after next count v u p end inner e w =
    let f = walk_found (node_trees_at count (room - 1) children bytes after (next + 1)) e in
    record {
      read = f.0;
      is = f.1;
      next_is = f.2;
      end_is = f.3;
      groups_are = f.4;
      stored_in = subst (λ (a : Answer TreesRead). Walked children (next + 1) count v u a) f.1 w;
    }

-- how many groups a node's tree ends as
ends_own : (t : Reflected) → ends_as t ≡ own_groups (child_count t) + group_count t
ends_own empty = omega arith
ends_own (node u l c r) = omega arith

own_most : (n : ℕ) → own_groups n ≤ 2
own_most zero = omega arith
own_most (suc n) = omega arith

end_from_none : (a : Answer TreesRead) → walk_end a ≡ end_after 0 a
end_from_none (answer t) = ap (λ (n : ℕ). answer (record { next = t.next; used = t.used; groups = n })) (omega arith)
end_from_none (refused n) = refl

-- ## One tree more

ends_more : (groups own : ℕ) (e : Entry) (c : Forest) → ends_as (reflected_from c) ≡ own → (a : Answer TreesRead)
    → end_after groups (then a (λ r. answer (beside e c r))) ≡ end_after (groups + own) a
ends_more groups own e c h (answer r) = ap (λ (n : ℕ). answer (record { next = r.next; used = r.used; groups = n })) (omega arith)
ends_more groups own e c h (refused n) = refl

-- the node is put before the trees below it, though these were read first
node_first : (v u : List Node) (next : ℕ) (x : Node) (t r : Reflected) → u ≡ sets v (next + 1) (stored (next + 1) t)
    → sets (set u next x) (next + 1 + node_count t) (stored (next + 1 + node_count t) r) ≡ sets v next (x ∷ (stored (next + 1) t ++ stored (next + 1 + node_count t) r))
node_first v u next x t r h =
    let c = stored (next + 1) t in
    let s = stored (next + 1 + node_count t) r in
    ap (λ y. sets (set y next x) (next + 1 + node_count t) s) h
    ∙ ap (λ y. sets y (next + 1 + node_count t) s) (sets_set v (next + 1) next x c (omega arith))
    ∙ ap₂ (λ i k. sets (sets (set v next x) i c) k s) (omega arith) (omega (arith, length_stored (next + 1) t))
    ∙ sym (sets_append (set v next x) (suc next) c s)

-- a node as it is put in its place
abbrev placed : EntryRead → ℕ → ℕ → Node
placed e groups end = record { upper = e.id; lower = e.quota; children = e.children; groups = groups; end = end }

placed_is : (e : EntryRead) (next own end : ℕ) (t : Reflected) → child_count t ≡ e.children → ends_as t ≡ own → end ≡ next + 1 + node_count t
    → record { upper = e.id; lower = e.quota; children = child_count t; groups = ends_as t; end = next + 1 + node_count t } ≡ placed e own end
placed_is e next own end t k o d = rw (k, o, sym d)

fills_more : (v u x : List Node) (next own end more left count : ℕ) (e : EntryRead) (c : TreesRead) → left ≡ more + 1
    → Filled e.children (next + 1) count v u c → c.used ≡ end → ends_as (reflected_from c.trees) ≡ own
    → (a : Answer TreesRead) → Walked more end count (set u next (placed e own end)) x a → Walked left next count v x (then a (λ r. answer (beside (entry e.id e.quota) c.trees r)))
fills_more v u x next own end more left count e c k s d o (refused n) h = tt
fills_more v u x next own end more left count e c k s d o (answer r) h =
    let t = reflected_from c.trees in
    let a : end ≡ next + 1 + node_count t = omega (arith, d, s.used_is) in
    record {
      places = h.places
          ∙ ap₂ (λ y i. sets (set u next y) i (stored i (reflected_from r.trees))) (sym (placed_is e next own end t s.trees_are o a)) a
          ∙ node_first v u next _ t (reflected_from r.trees) s.places;
      used_is = omega (arith, h.used_is, a);
      trees_are = omega (arith, h.trees_are);
      most = h.most;
    }

-- ## The loop

module _ {bytes : List ℕ} {at trees room used count : ℕ} {w : List Node} where
  pub begin : {left : ℕ} → left ≡ trees → used ≤ count → Reading bytes at trees room used count w w at used 0 left
  begin e l = rw e (record { ends = end_from_none (node_trees_at count room trees bytes at used); fills = λ x h. h; most = l; small = omega arith })

  pub refuse : {v : List Node} {place next groups left n : ℕ} → Reading bytes at trees room used count w v place next groups left → (x : List Node) → 1 ≤ left
      → node_tree_at count room bytes place next ≡ refused n
      → (refused n ≡ walk_end (node_trees_at count room trees bytes at used)) × Walked trees used count w x (node_trees_at count room trees bytes at used)
  refuse {v} {place} {next} {groups} {left} {n} r x some e =
      let f : node_trees_at count room left bytes place next ≡ refused n = nodes_more count bytes room left place next some ∙ rw e in
      (sym (r.ends ∙ rw f), r.fills x (rw f tt))

  pub ended : {v : List Node} {place next groups left : ℕ} → Reading bytes at trees room used count w v place next groups left → left ≤ 0
      → (answer (record { next = place; used = next; groups = groups }) ≡ walk_end (node_trees_at count room trees bytes at used))
      × Walked trees used count w v (node_trees_at count room trees bytes at used)
  ended {v} {place} {next} {groups} {left} r l =
      let f = nodes_none count bytes room left place next l in
      let s : Filled left next count v v (record { trees = none; next = place; used = next }) =
      record { places = refl; used_is = omega arith; trees_are = omega arith; most = r.most } in (
        sym (r.ends ∙ rw f (ap (λ (n : ℕ). answer (record { next = place; used = next; groups = n })) (omega arith))),
        r.fills v (rw f s),
      )

  pub again : {v u : List Node} {place next groups left : ℕ} {e : EntryRead} {p end inner own : ℕ} (more : ℕ)
      → Reading bytes at trees room used count w v place next groups left → left ≡ more + 1 → next < count → (room ≡ 0 → ⊥)
      → answer e ≡ node_at bytes place → Inner bytes room e.children e.next next count v u p end inner → own ≡ own_groups e.children
      → Reading bytes at trees room used count w (set u next (placed e (own + inner) end)) p end (groups + (own + inner)) more
  again {v} {u} {place} {next} {groups} {left} {e} {p} {end} {inner} {own} more r some l deep is i o =
      let c = i.read in
      let t = reflected_from c.trees in
      let rest = node_trees_at count room more bytes p end in
      let less : left - 1 ≡ more = omega arith in
      let m : node_trees_at count room left bytes place next ≡ then rest (λ r. answer (beside (entry e.id e.quota) c.trees r)) =
      nodes_more count bytes room left place next (omega arith) ∙ rw (node_below count bytes room place next l deep (sym is), i.is, less, i.next_is, i.end_is) in
      let whole : ends_as t ≡ own + inner = ends_own t ∙ ap₂ (λ k s. own_groups k + s) i.stored_in.trees_are i.groups_are ∙ ap (λ k. k + inner) (sym o) in
      record {
        ends = r.ends ∙ ap (end_after groups) m ∙ ends_more groups (own + inner) (entry e.id e.quota) c.trees whole rest;
        fills = λ x h. r.fills x (subst (λ (a : Answer TreesRead). Walked left next count v x a) (sym m) (fills_more v u x next (own + inner) end more left count e c some i.stored_in i.end_is whole rest h));
        most = omega (arith, i.stored_in.most, i.end_is);
        small = omega (arith, r.small, count_most t, i.groups_are, i.stored_in.used_is, i.end_is, own_most e.children, o);
      }

  -- no sum is beyond 32 bits
  pub groups_bound : {v : List Node} {place next groups left : ℕ} → Reading bytes at trees room used count w v place next groups left → count ≤ 64 → groups ≤ 128
  groups_bound r l = omega (arith, r.small, r.most)

pub inner_bound : {bytes : List ℕ} {room children after next count : ℕ} {v u : List Node} {p end inner : ℕ} → Inner bytes room children after next count v u p end inner → count ≤ 64
    → inner ≤ 128
inner_bound i l = omega (arith, i.groups_are, count_most (reflected_from i.read.trees), i.stored_in.used_is, i.stored_in.most)

pub own_bound : {own : ℕ} (n : ℕ) → own ≡ own_groups n → own ≤ 2
own_bound n e = omega (arith, e, own_most n)
