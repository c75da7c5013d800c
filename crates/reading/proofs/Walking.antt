-- A walk over child counts: trees from a position on, written to the work columns one after another.
use mathlib.Core.Path.{◌≡◌, refl, ap, ap₂, sym, ◌∙◌, subst}
use mathlib.Core.List.{List}
use Prim.Native.Nat.{ℕ, ◌+◌, ◌-◌, ◌*◌, ◌≤◌, ◌<◌}
use native.Mathlib.Omega.{arith}
use lib.ListN.{set}
use lib.Seq.{set_comm}
use Rattle.rules.specs.Answers.{Answer, answer, refused, then}
use Rattle.rules.specs.Limits.{greatest, most_entries}
use Rattle.rules.specs.Buffers.{Bytes}
use Rattle.rules.proofs.Answers.{same_answer, never_refused, then_refused}
use Rattle.request.specs.Entries.{Entry, entry}
use Rattle.request.specs.Forest.{Forest, none, tree}
use Rattle.request.specs.Numbering.{whole, size}
use Rattle.request.specs.Legal.{LegalTrees}
use Rattle.request.specs.declared.EntryRead.{EntryRead}
use Rattle.request.specs.Reading.{entry_at, TreesRead, tree_at, trees_at}
use Rattle.reading.specs.declared.WalkEnd.{WalkEnd}
use Rattle.reading.specs.declared.columns.Work.{Work}
use Rattle.reading.specs.Work.{work, enter, filled}
use Rattle.reading.specs.Inside.Work.{walk_end, Walked}
use Rattle.request.proofs.ReadLaws.{read_trees}
use Rattle.request.proofs.TreeSteps.{beside, tree_below, trees_none, trees_more}
use Rattle.request.proofs.Numbering.{size_length}

-- the trees that were read count on from `used`, up to the most entries
pub used_size : (room n : ℕ) (bytes : List ℕ) (at used : ℕ) {t : TreesRead} → trees_at room n bytes at used ≡ answer t
    → (t.used ≡ used + size t.trees) × (used ≤ most_entries → t.used ≤ most_entries)
used_size room n bytes at used {t} e = let r = read_trees room n bytes at used e in (omega (arith, r.counted, size_length t.trees), r.most)

pub whole_bound : (t : Forest) → LegalTrees t → whole t ≤ size t * greatest
whole_bound none g = omega arith
whole_bound (tree e c r) g = omega (arith, whole_bound c g.2, whole_bound r g.3, g.1.1)

-- ## An entry's end and sum are written after the trees below it

abbrev close : Work → ℕ → ℕ → ℕ → Work
close w at end sum = work w.ids w.quotas (set w.ends at end) (set w.sums at sum)

close_enter : (w : Work) (at end sum n id quota e s : ℕ) → at < n → close (enter w n id quota e s) at end sum ≡ enter (close w at end sum) n id quota e s
close_enter w at end sum n id quota e s l = rw (set_comm w.ends n at e end (λ h. omega arith), set_comm w.sums n at s sum (λ h. omega arith))

close_filled : (w : Work) (at end sum n : ℕ) (t : Forest) → at < n → close (filled w n t) at end sum ≡ filled (close w at end sum) n t
close_filled w at end sum n none l = refl
close_filled w at end sum n (tree e c r) l =
    let v = enter w n e.id e.quota (n + 1 + size c) (e.quota + whole c) in
    close_filled (filled v (n + 1) c) at end sum (n + 1 + size c) r (omega arith)
    ∙ ap (λ (v : Work). filled v (n + 1 + size c) r)
    (close_filled v at end sum (n + 1) c (omega arith) ∙ ap (λ (v : Work). filled v (n + 1) c) (close_enter w at end sum n e.id e.quota _ _ l))

-- ## The loop

-- where the walk comes to with what is ahead, after a sum
abbrev end_after : ℕ → Answer TreesRead → Answer WalkEnd
end_after sum found = then found λ t. answer (record { next = t.next; used = t.used; quota = sum + whole t.trees })

-- after some trees: the walk ends as those that are left end it, and the work columns are filled as those that are left fill them
pub record Reading (bytes : List ℕ) (at trees room used : ℕ) (w v : Work) (place next sum left : ℕ) : Type 0 where
  pub ends : walk_end (trees_at room trees bytes at used) ≡ end_after sum (trees_at room left bytes place next)
  pub fills : (x : Work) → Walked (trees_at room left bytes place next) next v x → Walked (trees_at room trees bytes at used) used w x
  pub most : next ≤ most_entries
  pub small : sum ≤ next * greatest

-- the trees below an entry, once they are read
pub record Inner (bytes : List ℕ) (room children after next : ℕ) (v u : Work) (p end inner : ℕ) : Type 0 where
  pub trees : Forest
  pub read : trees_at (room - 1) children bytes after (next + 1) ≡ answer (record { trees = trees; next = p; used = end })
  pub written : u ≡ filled v (next + 1) trees
  pub summed : whole trees ≡ inner
  pub counted : end ≡ next + 1 + size trees
  pub most : end ≤ most_entries
  pub small : inner ≤ size trees * greatest

-- what the answer of a walk says of the trees
pub walk_found : (a : Answer TreesRead) {p e s : ℕ} → answer (record { next = p; used = e; quota = s }) ≡ walk_end a
    → (t : Forest) × (a ≡ answer (record { trees = t; next = p; used = e })) × (whole t ≡ s)
walk_found (answer t) e =
    let f = same_answer (sym e) in
    (t.trees, ap₂ (λ p u. answer (record { trees = t.trees; next = p; used = u })) (ap (λ (r : WalkEnd). r.next) f) (ap (λ (r : WalkEnd). r.used) f), ap (λ (r : WalkEnd). r.quota) f)
walk_found (refused n) e = never_refused (sym e)

pub walk_refused : (a : Answer TreesRead) {n : ℕ} → refused n ≡ walk_end a → a ≡ refused n
walk_refused a e = then_refused a _ (sym e)

pub inner_found : (bytes : List ℕ) (room children after next : ℕ) (v u : Work) (p end inner : ℕ) → Bytes bytes → next < most_entries
    → answer (record { next = p; used = end; quota = inner }) ≡ walk_end (trees_at (room - 1) children bytes after (next + 1))
    → Walked (trees_at (room - 1) children bytes after (next + 1)) (next + 1) v u
    → Inner bytes room children after next v u p end inner
inner_found bytes room children after next v u p end inner b l e w =
    let f = walk_found (trees_at (room - 1) children bytes after (next + 1)) e in
    let z = used_size (room - 1) children bytes after (next + 1) f.1 in
    record {
      trees = f.0;
      read = f.1;
      written = subst (λ (a : Answer TreesRead). Walked a (next + 1) v u) f.1 w;
      summed = f.2;
      counted = z.0;
      most = z.1 (omega arith);
      small = omega (arith, f.2, whole_bound f.0 ((read_trees (room - 1) children bytes after (next + 1) f.1).legal b));
    }

-- an entry without children has none
inner_none : (bytes : List ℕ) (room children after next : ℕ) (v : Work) → next < most_entries → children ≡ 0 → Inner bytes room children after next v v after (next + 1) 0
inner_none bytes room children after next v l z = record {
  trees = none;
  read = trees_none bytes (room - 1) children after (next + 1) (omega arith);
  written = refl;
  summed = refl;
  counted = omega arith;
  most = omega arith;
  small = omega arith;
}

end_from_none : (a : Answer TreesRead) → walk_end a ≡ end_after 0 a
end_from_none (answer t) = ap (λ (n : ℕ). answer (record { next = t.next; used = t.used; quota = n })) (omega arith)
end_from_none (refused n) = refl

module _ {bytes : List ℕ} {at trees room used : ℕ} {w : Work} where
  pub begin : {left : ℕ} → left ≡ trees → used ≤ most_entries → Reading bytes at trees room used w w at used 0 left
  begin e l = rw e (record { ends = end_from_none (trees_at room trees bytes at used); fills = λ x h. h; most = l; small = omega arith })

  pub refuse : {v : Work} {place next sum left n : ℕ} → Reading bytes at trees room used w v place next sum left → (x : Work) → 1 ≤ left → tree_at room bytes place next ≡ refused n
      → (refused n ≡ walk_end (trees_at room trees bytes at used)) × Walked (trees_at room trees bytes at used) used w x
  refuse {v} {place} {next} {sum} {left} {n} r x some e =
      let f : trees_at room left bytes place next ≡ refused n = trees_more bytes room left place next some ∙ rw e in
      (sym (r.ends ∙ rw f), r.fills x (rw f tt))

  pub ended : {v : Work} {place next sum left : ℕ} → Reading bytes at trees room used w v place next sum left → left ≤ 0
      → (answer (record { next = place; used = next; quota = sum }) ≡ walk_end (trees_at room trees bytes at used)) × Walked (trees_at room trees bytes at used) used w v
  ended {v} {place} {next} {sum} {left} r l =
      let f = trees_none bytes room left place next l in
      (sym (r.ends ∙ rw f (ap (λ (n : ℕ). answer (record { next = place; used = next; quota = n })) (omega arith))), r.fills v (rw f refl))

  -- no sum is beyond 64 bits
  pub sum_bound : {v : Work} {place next sum left : ℕ} → Reading bytes at trees room used w v place next sum left → sum ≤ most_entries * greatest
  sum_bound r = omega (arith, r.small, r.most)

-- ## One tree more

ends_more : (sum inner : ℕ) (e : Entry) (c : Forest) → whole c ≡ inner → (a : Answer TreesRead) → end_after sum (then a (λ r. answer (beside e c r))) ≡ end_after (sum + (e.quota + inner)) a
ends_more sum inner e c h (answer r) = ap (λ (n : ℕ). answer (record { next = r.next; used = r.used; quota = n })) (omega arith)
ends_more sum inner e c h (refused n) = refl

fills_more : (v u x : Work) (next end : ℕ) (e : Entry) (c : Forest) → end ≡ next + 1 + size c
    → u ≡ filled (enter v next e.id e.quota (next + 1 + size c) (e.quota + whole c)) (next + 1) c
    → (a : Answer TreesRead) → Walked a end u x → Walked (then a (λ r. answer (beside e c r))) next v x
fills_more v u x next end e c counted written (answer r) h = h ∙ ap₂ (λ w k. filled w k r.trees) written counted
fills_more v u x next end e c counted written (refused n) h = tt

-- its id and quota were written before the trees below it, its end and sum after them
pub again : {bytes : List ℕ} {at trees room used : ℕ} {w v u : Work} {place next sum left : ℕ} {e : EntryRead} {p end inner : ℕ} (more : ℕ)
    → Reading bytes at trees room used w v place next sum left → left ≡ more + 1 → next < most_entries → (room ≡ 0 → ⊥)
    → answer e ≡ entry_at bytes place → e.quota ≤ greatest
    → Inner bytes room e.children e.next next (work (set v.ids next e.id) (set v.quotas next e.quota) v.ends v.sums) u p end inner
    → Reading bytes at trees room used w (work u.ids u.quotas (set u.ends next end) (set u.sums next (e.quota + inner))) p end (sum + (e.quota + inner)) more
again {bytes} {at} {trees} {room} {used} {w} {v} {u} {place} {next} {sum} {left} {e} {p} {end} {inner} more r some l deep is fits i =
    let c = i.trees in
    let one = entry e.id e.quota in
    let rest = trees_at room more bytes p end in
    let less : left - 1 ≡ more = omega arith in
    let m : trees_at room left bytes place next ≡ then rest (λ r. answer (beside one c r)) =
    trees_more bytes room left place next (omega arith) ∙ rw (tree_below bytes room place next l deep (sym is), i.read, less) in
    let closed =
    ap (λ (u : Work). close u next end (e.quota + inner)) i.written
    ∙ close_filled _ next end (e.quota + inner) (next + 1) c (omega arith)
    ∙ ap₂ (λ (k s : ℕ). filled (enter v next e.id e.quota k (e.quota + s)) (next + 1) c) i.counted (sym i.summed) in
    record {
      ends = r.ends ∙ ap (end_after sum) m ∙ ends_more sum inner one c i.summed rest;
      fills = λ x h. r.fills x (subst (λ (a : Answer TreesRead). Walked a next v x) (sym m) (fills_more v _ x next end one c i.counted closed rest h));
      most = i.most;
      small = omega (arith, i.small, r.small, i.counted);
    }

-- an entry without children
pub again_alone : {bytes : List ℕ} {at trees room used : ℕ} {w v : Work} {place next sum left : ℕ} {e : EntryRead} (more : ℕ)
    → Reading bytes at trees room used w v place next sum left → left ≡ more + 1 → next < most_entries → (room ≡ 0 → ⊥)
    → answer e ≡ entry_at bytes place → e.quota ≤ greatest → e.children ≡ 0
    → Reading bytes at trees room used w (work (set v.ids next e.id) (set v.quotas next e.quota) (set v.ends next (next + 1)) (set v.sums next e.quota)) e.next (next + 1)
    (sum + e.quota) more
again_alone {bytes} {at} {trees} {room} {used} {w} {v} {place} {next} {sum} {left} {e} more r some l deep is fits z =
    let own : e.quota + 0 ≡ e.quota = omega arith in
    subst (λ s. Reading bytes at trees room used w (work (set v.ids next e.id) (set v.quotas next e.quota) (set v.ends next (next + 1)) (set v.sums next s)) e.next (next + 1) (sum + s) more) own
    (again more r some l deep is fits (inner_none bytes room e.children e.next next _ l z))
