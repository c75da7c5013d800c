-- What a request that was read promises.
use mathlib.Core.Path.{◌≡◌, refl, ap, sym, ◌∙◌, subst}
use mathlib.Core.Bool.{Bool, true, false}
use mathlib.Core.List.{List}
use Prim.Native.Nat.{ℕ, zero, suc, ◌+◌, ◌≤◌, ◌<◌}
use native.Mathlib.Omega.{arith}
use lib.Dec.{eqb, ltb, leb}
use lib.ListN.{length, length-append}
use borrow.Author.Tests.{eqb-false, ltb-true, ne_eqb}
use Rattle.rules.specs.Answers.{answer}
use Rattle.rules.specs.Limits.{greatest, most_entries, greatest_depth}
use Rattle.rules.specs.Buffers.{Bytes}
use Rattle.rules.proofs.Answers.{same_answer, never_refused, peel, wanted, then_answer}
use Rattle.rules.proofs.Cases.{by_lt}
use Rattle.number.specs.declared.Number.{Number}
use Rattle.number.specs.Number.{number_at}
use Rattle.number.proofs.Laws.{number_fits}
use Rattle.request.specs.Entries.{entry, pick, one_at, no_quota, times, Positive}
use Rattle.request.specs.Forest.{none, pre_l}
use Rattle.request.specs.Request.{Request, entries}
use Rattle.request.specs.Legal.{depth, LegalTrees, Legal}
use Rattle.request.specs.declared.EntryRead.{EntryRead}
use Rattle.request.specs.Reading.{positive_at, entry_at, TreeRead, TreesRead, trees_by, tree_by, not_full, tree_at, trees_at, request_of}
use Rattle.request.proofs.Sums.{sum_append}
use Rattle.request.proofs.TreeSteps.{beside, tree_full, tree_deep}

pub positive_some : (bytes : List ℕ) (at : ℕ) {n : Number} → positive_at bytes at ≡ answer n → 1 ≤ n.value
unfolding positive_at
positive_some bytes at {n} e =
    let a = then_answer (number_at bytes at) _ e in
    let b = peel (eqb a.0.value 0) _ _ a.2 in
    let z : a.0.value ≡ 0 → ⊥ = eqb-false _ _ b.0 in
    let f : a.0 ≡ n = same_answer b.1 in
    omega (arith, ap (λ m. m.value) f)

-- id and quota of an entry that was read
pub entry_some : (bytes : List ℕ) (at : ℕ) {e : EntryRead} → entry_at bytes at ≡ answer e → (1 ≤ e.id) × (1 ≤ e.quota)
unfolding entry_at
entry_some bytes at {e} h =
    let i = then_answer (positive_at bytes at) _ h in
    let q = then_answer (positive_at bytes i.0.next) _ i.2 in
    let c = then_answer (number_at bytes q.0.next) _ q.2 in
    let f = same_answer c.2 in
    let si = positive_some bytes at i.1 in
    let sq = positive_some bytes i.0.next q.1 in
    (omega (arith, ap (λ m. m.id) f), omega (arith, ap (λ m. m.quota) f))

-- id and quota of an entry that was read from bytes are at most the greatest number
positive_fits : (bytes : List ℕ) (at : ℕ) {n : Number} → Bytes bytes → positive_at bytes at ≡ answer n → n.value ≤ greatest
unfolding positive_at
positive_fits bytes at b e =
    let a = then_answer (number_at bytes at) _ e in
    let f = same_answer (peel (eqb a.0.value 0) _ _ a.2).1 in
    omega (arith, ap (λ m. m.value) f, number_fits bytes at b a.1)

pub entry_fits : (bytes : List ℕ) (at : ℕ) {e : EntryRead} → Bytes bytes → entry_at bytes at ≡ answer e → (e.id ≤ greatest) × (e.quota ≤ greatest)
unfolding entry_at
entry_fits bytes at {e} b h =
    let i = then_answer (positive_at bytes at) _ h in
    let q = then_answer (positive_at bytes i.0.next) _ i.2 in
    let c = then_answer (number_at bytes q.0.next) _ q.2 in
    let f = same_answer c.2 in
    let fi = positive_fits bytes at b i.1 in
    let fq = positive_fits bytes i.0.next b q.1 in
    (omega (arith, ap (λ m. m.id) f), omega (arith, ap (λ m. m.quota) f))

-- `n` trees that were read, where `used` entries stand before them and there is room for `room` depths
pub record ReadTrees (bytes : List ℕ) (room n used : ℕ) (a : TreesRead) : Type 0 where
  pub positive : Positive (pre_l a.trees)
  pub named : times 0 (pre_l a.trees) ≡ 0
  pub counted : a.used ≡ used + length (pre_l a.trees)
  pub some : 1 ≤ n → 1 ≤ length (pre_l a.trees)
  pub most : used ≤ most_entries → a.used ≤ most_entries
  pub deep : depth a.trees ≤ room
  pub legal : Bytes bytes → LegalTrees a.trees

deeper : (b : Bool) (c r room : ℕ) → c ≤ room → r ≤ suc room → pick b (suc c) r ≤ suc room
deeper true c r room h k = omega arith
deeper false c r room h k = omega arith

module _ (bytes : List ℕ) (room n used : ℕ) (e : EntryRead) (c r : TreesRead) where
  read_tree : (1 ≤ e.id) × (1 ≤ e.quota) → (Bytes bytes → (e.id ≤ greatest) × (e.quota ≤ greatest)) → used < most_entries
      → ReadTrees bytes room e.children (used + 1) c → ReadTrees bytes (suc room) n c.used r
      → ReadTrees bytes (suc room) (suc n) used (beside (entry e.id e.quota) c.trees r)
  read_tree s g h k m =
      let i : pick (eqb 0 e.id) 1 0 ≡ 0 = rw (ne_eqb 0 e.id (omega (arith, s.0))) in
      let q : pick (eqb e.quota 0) 1 0 ≡ 0 = rw (ne_eqb e.quota 0 (omega (arith, s.1))) in
      record {
        positive = omega (arith, sum_append no_quota (pre_l c.trees) (pre_l r.trees), k.positive, m.positive);
        named = omega (arith, sum_append (one_at 0) (pre_l c.trees) (pre_l r.trees), k.named, m.named);
        counted = omega (arith, length-append (pre_l c.trees) (pre_l r.trees), k.counted, m.counted);
        some = λ _. omega arith;
        most = λ _. m.most (k.most (omega arith));
        deep = deeper (leb (depth r.trees) (depth c.trees)) (depth c.trees) (depth r.trees) room k.deep m.deep;
        legal = λ b. ((s.0, (g b).0), (s.1, (g b).1), k.legal b, m.legal b);
      }

read_none : (bytes : List ℕ) (room used next : ℕ) → ReadTrees bytes room 0 used (record { trees = none; next = next; used = used })
read_none bytes room used next = record { positive = refl; named = refl; counted = omega arith; some = λ h. omega arith; most = λ h. h; deep = omega arith; legal = λ b. tt }

not_full_lem : (used : ℕ) {u : Unit {0}} → not_full used ≡ answer u → used < most_entries
unfolding not_full
not_full_lem used h = ltb-true _ _ (wanted (ltb used most_entries) _ _ h).0

-- a first tree, and the others
read_first : (bytes : List ℕ) (room n at used : ℕ) (t : TreeRead) (r : TreesRead)
    → ((m p k : ℕ) (c : TreesRead) → trees_at room m bytes p k ≡ answer c → ReadTrees bytes room m k c)
    → tree_at (suc room) bytes at used ≡ answer t → ReadTrees bytes (suc room) n t.used r
    → ReadTrees bytes (suc room) (suc n) used (beside t.root t.children r)
unfolding trees_at tree_by
read_first bytes room n at used t r below h =
    let f = then_answer (not_full used) _ h in
    let e = then_answer (entry_at bytes at) _ f.2 in
    let c = then_answer (trees_at room e.0.children bytes e.0.next (used + 1)) _ e.2 in
    subst (λ (t : TreeRead). ReadTrees bytes (suc room) n t.used r → ReadTrees bytes (suc room) (suc n) used (beside t.root t.children r)) (same_answer c.2)
    (read_tree bytes room n used e.0 c.0 r (entry_some bytes at e.1) (λ b. entry_fits bytes at b e.1) (not_full_lem used f.1) (below _ _ _ _ c.1))

read_by : (bytes : List ℕ) (room : ℕ) → ((m p k : ℕ) (c : TreesRead) → trees_at room m bytes p k ≡ answer c → ReadTrees bytes room m k c)
    → (n at used : ℕ) {a : TreesRead} → trees_at (suc room) n bytes at used ≡ answer a → ReadTrees bytes (suc room) n used a
unfolding trees_at trees_by
read_by bytes room below zero at used e = rw (← (same_answer e)) (read_none bytes (suc room) used at)
read_by bytes room below (suc n) at used e =
    let t = then_answer (tree_at (suc room) bytes at used) _ e in
    let r = then_answer (trees_at (suc room) n bytes t.0.next t.0.used) _ t.2 in
    rw (← (same_answer r.2)) (read_first bytes room n at used t.0 r.0 below t.1 (read_by bytes room below n t.0.next t.0.used r.1))

pub read_trees : (room n : ℕ) (bytes : List ℕ) (at used : ℕ) {a : TreesRead} → trees_at room n bytes at used ≡ answer a → ReadTrees bytes room n used a
unfolding trees_at trees_by
read_trees zero zero bytes at used e = rw (← (same_answer e)) (read_none bytes 0 used at)
read_trees zero (suc n) bytes at used e =
    let h = (then_answer (tree_at 0 bytes at used) _ e).1 in
    by_lt used most_entries (λ l. never_refused (sym (tree_deep bytes 0 at used l refl) ∙ h)) (λ l. never_refused (sym (tree_full bytes 0 at used l) ∙ h))
read_trees (suc room) n bytes at used e = read_by bytes room (λ m p k c. read_trees room m bytes p k) n at used e

pub record ReadRequest (q : Request) : Type 0 where
  pub exploded_some : 1 ≤ q.exploded
  pub positive : Positive (entries q)
  pub named : times 0 (entries q) ≡ 0
  pub entries_some : 1 ≤ length (entries q)
  pub entries_most : length (entries q) ≤ most_entries
  pub deep : depth q.trees ≤ greatest_depth

request_all : (bytes : List ℕ) {q : Request} → request_of bytes ≡ answer q → ReadRequest q × (Bytes bytes → Legal q)
unfolding request_of
request_all bytes h =
    let u = then_answer (positive_at bytes 0) _ h in
    let d = then_answer (number_at bytes u.0.next) _ u.2 in
    let p = peel (ltb 1 d.0.value) _ _ d.2 in
    let n = then_answer (positive_at bytes d.0.next) _ p.1 in
    let t = then_answer (trees_at greatest_depth n.0.value bytes n.0.next 0) _ n.2 in
    let l = peel (ltb t.0.next (length bytes)) _ _ t.2 in
    let r = read_trees greatest_depth n.0.value bytes n.0.next 0 t.1 in
    let some = positive_some bytes 0 u.1 in
    let least = r.some (positive_some bytes _ n.1) in
    let most : length (pre_l t.0.trees) ≤ most_entries = omega (arith, r.counted, r.most (omega arith)) in
    rw (← (same_answer l.1)) (
      record { exploded_some = some; positive = r.positive; named = r.named; entries_some = least; entries_most = most; deep = r.deep },
      λ b. record { exploded = (some, positive_fits bytes 0 b u.1); trees = r.legal b; entries_some = least; entries_most = most; deep = r.deep },
    )

pub request_read : (bytes : List ℕ) {q : Request} → request_of bytes ≡ answer q → ReadRequest q
request_read bytes h = (request_all bytes h).0

-- a request that was read from bytes is legal
pub request_legal : (bytes : List ℕ) {q : Request} → Bytes bytes → request_of bytes ≡ answer q → Legal q
request_legal bytes b h = (request_all bytes h).1 b
