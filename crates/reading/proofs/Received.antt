-- What the caller of `read_request` has in the work columns.
use mathlib.Core.Path.{◌≡◌, refl, ap, sym, ◌∙◌, subst}
use mathlib.Core.Bool.{Bool, false}
use mathlib.Core.List.{List}
use Prim.Native.Nat.{ℕ, ◌+◌, ◌≤◌, ◌<◌}
use native.Mathlib.Omega.{arith}
use lib.ListN.{get_or, length-set}
use lib.Seq.{get_or-set_same, get_or-set_other}
use Rattle.std.specs.Prelude.{Result, Ok, Err, is_err}
use Rattle.rules.specs.Answers.{Answer, answer, refused}
use Rattle.rules.specs.Says.{says}
use Rattle.rules.specs.declared.Refusal.{Refusal}
use Rattle.rules.specs.Limits.{most_entries}
use Rattle.rules.proofs.Answers.{same_answer, never_refused}
use Rattle.request.specs.Forest.{Forest, none, tree, Direction, upright, inverted}
use Rattle.request.specs.Numbering.{whole, size}
use Rattle.request.specs.Request.{Request}
use Rattle.request.specs.Legal.{LegalTrees}
use Rattle.request.specs.Reading.{request_of}
use Rattle.reading.specs.declared.Summary.{Summary}
use Rattle.reading.specs.declared.columns.Work.{Work}
use Rattle.reading.specs.Summary.{is_upright, summary}
use Rattle.reading.specs.Work.{Places, enter, filled, work_after}
use Rattle.reading.specs.Inside.Work.{EntryIn, TreesIn, direction_by, RequestIn}
use Rattle.request.proofs.Numbering.{size_length}
use Rattle.request.proofs.ReadLaws.{request_read}

enter_places : {n : ℕ} (w : Work) (at id quota end sum : ℕ) → Places n w → Places n (enter w at id quota end sum)
enter_places w at id quota end sum p = record {
  in_ids = length-set w.ids at id ∙ p.in_ids;
  in_quotas = length-set w.quotas at quota ∙ p.in_quotas;
  in_ends = length-set w.ends at end ∙ p.in_ends;
  in_sums = length-set w.sums at sum ∙ p.in_sums;
}

enter_back : {n : ℕ} (w : Work) (at id quota end sum : ℕ) → Places n (enter w at id quota end sum) → Places n w
enter_back w at id quota end sum p = record {
  in_ids = sym (length-set w.ids at id) ∙ p.in_ids;
  in_quotas = sym (length-set w.quotas at quota) ∙ p.in_quotas;
  in_ends = sym (length-set w.ends at end) ∙ p.in_ends;
  in_sums = sym (length-set w.sums at sum) ∙ p.in_sums;
}

pub filled_places : {n : ℕ} (w : Work) (at : ℕ) (t : Forest) → Places n w → Places n (filled w at t)
filled_places w at none p = p
filled_places w at (tree e c r) p =
    let v = enter w at e.id e.quota (at + 1 + size c) (e.quota + whole c) in
    filled_places (filled v (at + 1) c) (at + 1 + size c) r (filled_places v (at + 1) c (enter_places w at _ _ _ _ p))

pub filled_back : {n : ℕ} (w : Work) (at : ℕ) (t : Forest) → Places n (filled w at t) → Places n w
filled_back w at none p = p
filled_back w at (tree e c r) p =
    let v = enter w at e.id e.quota (at + 1 + size c) (e.quota + whole c) in
    enter_back w at _ _ _ _ (filled_back v (at + 1) c (filled_back (filled v (at + 1) c) (at + 1 + size c) r p))

-- two work columns agree below an index
pub record Agree (n : ℕ) (w v : Work) : Type 0 where
  pub at_ids : (k : ℕ) → k < n → get_or v.ids k 0 ≡ get_or w.ids k 0
  pub at_quotas : (k : ℕ) → k < n → get_or v.quotas k 0 ≡ get_or w.quotas k 0
  pub at_ends : (k : ℕ) → k < n → get_or v.ends k 0 ≡ get_or w.ends k 0
  pub at_sums : (k : ℕ) → k < n → get_or v.sums k 0 ≡ get_or w.sums k 0

agree_then : {m n : ℕ} {w v u : Work} → Agree m w v → Agree n v u → m ≤ n → Agree m w u
agree_then g h l = record {
  at_ids = λ k i. h.at_ids k (omega arith) ∙ g.at_ids k i;
  at_quotas = λ k i. h.at_quotas k (omega arith) ∙ g.at_quotas k i;
  at_ends = λ k i. h.at_ends k (omega arith) ∙ g.at_ends k i;
  at_sums = λ k i. h.at_sums k (omega arith) ∙ g.at_sums k i;
}

enter_below : (w : Work) (at id quota end sum : ℕ) → Agree at w (enter w at id quota end sum)
enter_below w at id quota end sum = record {
  at_ids = λ k i. get_or-set_other w.ids at k id 0 (λ e. omega arith);
  at_quotas = λ k i. get_or-set_other w.quotas at k quota 0 (λ e. omega arith);
  at_ends = λ k i. get_or-set_other w.ends at k end 0 (λ e. omega arith);
  at_sums = λ k i. get_or-set_other w.sums at k sum 0 (λ e. omega arith);
}

filled_below : (w : Work) (at : ℕ) (t : Forest) → Agree at w (filled w at t)
filled_below w at none = record { at_ids = λ k i. refl; at_quotas = λ k i. refl; at_ends = λ k i. refl; at_sums = λ k i. refl }
filled_below w at (tree e c r) =
    let v = enter w at e.id e.quota (at + 1 + size c) (e.quota + whole c) in
    agree_then (enter_below w at _ _ _ _) (agree_then (filled_below v (at + 1) c) (filled_below (filled v (at + 1) c) (at + 1 + size c) r) (omega arith)) (omega arith)

entry_agree : {n : ℕ} {w v : Work} {at id quota end sum : ℕ} → Agree n w v → at < n → EntryIn w at id quota end sum → EntryIn v at id quota end sum
entry_agree g l e = record {
  id_is = g.at_ids _ l ∙ e.id_is;
  quota_is = g.at_quotas _ l ∙ e.quota_is;
  end_is = g.at_ends _ l ∙ e.end_is;
  sum_is = g.at_sums _ l ∙ e.sum_is;
}

trees_agree : {n : ℕ} {w v : Work} (at : ℕ) (t : Forest) → Agree n w v → at + size t ≤ n → TreesIn w at t → TreesIn v at t
trees_agree at none g l s = tt
trees_agree at (tree e c r) g l s =
    (entry_agree g (omega arith) s.0, s.1, trees_agree (at + 1) c g (omega arith) s.2, trees_agree (at + 1 + size c) r g (omega arith) s.3)

entry_in : {n : ℕ} (w : Work) (at id quota end sum : ℕ) → Places n w → at < n → EntryIn (enter w at id quota end sum) at id quota end sum
entry_in w at id quota end sum p l = record {
  id_is = get_or-set_same w.ids at id 0 (omega (arith, p.in_ids));
  quota_is = get_or-set_same w.quotas at quota 0 (omega (arith, p.in_quotas));
  end_is = get_or-set_same w.ends at end 0 (omega (arith, p.in_ends));
  sum_is = get_or-set_same w.sums at sum 0 (omega (arith, p.in_sums));
}

-- a forest's entries stand in the work columns that they were written to
pub filled_in : {n : ℕ} (w : Work) (at : ℕ) (t : Forest) → Places n w → at + size t ≤ n → LegalTrees t → TreesIn (filled w at t) at t
filled_in w at none p l g = tt
filled_in w at (tree e c r) p l g =
    let v = enter w at e.id e.quota (at + 1 + size c) (e.quota + whole c) in
    let q = enter_places w at e.id e.quota (at + 1 + size c) (e.quota + whole c) p in
    let u = filled v (at + 1) c in
    let after = filled_below u (at + 1 + size c) r in (
      entry_agree (agree_then (filled_below v (at + 1) c) after (omega arith)) (omega arith) (entry_in w at _ _ _ _ p (omega arith)),
      g.1,
      trees_agree (at + 1) c after (omega arith) (filled_in v (at + 1) c q (omega arith) g.2),
      filled_in u (at + 1 + size c) r (filled_places v (at + 1) c q) (omega arith) g.3,
    )

-- ## A request that was read

direction_by_lem : (d : Direction) {up : Bool} → is_upright d ≡ up → direction_by up ≡ d
direction_by_lem upright e = ap direction_by (sym e)
direction_by_lem inverted e = ap direction_by (sym e)

pub record Received (bytes : List ℕ) (w v : Work) (exploded : ℕ) (up : Bool) (entries quota : ℕ) : Type 0 where
  pub request : Request
  pub is : request_of bytes ≡ answer request
  pub written : v ≡ filled w 0 request.trees
  pub exploded_is : exploded ≡ request.exploded
  pub direction_is : direction_by up ≡ request.direction
  pub entries_are : entries ≡ size request.trees
  pub entries_some : 1 ≤ entries
  pub entries_most : entries ≤ most_entries
  pub quota_is : quota ≡ whole request.trees

received_as : (bytes : List ℕ) (w v : Work) {x u z : ℕ} {up : Bool} (a : Answer Request) → request_of bytes ≡ a
    → answer (record { exploded = x; upright = up; entries = u; quota = z }) ≡ summary a → v ≡ work_after a w → Received bytes w v x up u z
received_as bytes w v (refused n) k e h = never_refused (sym e)
received_as bytes w v (answer q) k e h =
    let f = same_answer e in
    let n = ap (λ (s : Summary). s.entries) f in
    let r = request_read bytes k in
    record {
      request = q;
      is = k;
      written = h;
      exploded_is = ap (λ (s : Summary). s.exploded) f;
      direction_is = direction_by_lem q.direction (sym (ap (λ (s : Summary). s.upright) f));
      entries_are = n;
      entries_some = omega (arith, n, r.entries_some, size_length q.trees);
      entries_most = omega (arith, n, r.entries_most, size_length q.trees);
      quota_is = ap (λ (s : Summary). s.quota) f;
    }

-- `read_request` answers a request
pub received : (bytes : List ℕ) (w v : Work) {x u z : ℕ} {up : Bool} → answer (record { exploded = x; upright = up; entries = u; quota = z }) ≡ summary (request_of bytes)
    → v ≡ work_after (request_of bytes) w → Received bytes w v x up u z
received bytes w v e h = received_as bytes w v (request_of bytes) refl e h

-- ## Where `read_parts` answers, it leaves the work columns as `read_request` does

pub work_after_lem : (bytes : List ℕ) (w v : Work) {s : Summary} → answer s ≡ summary (request_of bytes) → RequestIn (request_of bytes) w v → v ≡ work_after (request_of bytes) w
work_after_lem bytes w v e h = go (request_of bytes) e h
  where
    go : (found : Answer Request) {s : Summary} → answer s ≡ summary found → RequestIn found w v → v ≡ work_after found w
    go (answer q) e h = h
    go (refused n) e h = never_refused (sym e)

-- and they keep their places
pub kept_places : {n : ℕ} (a : Answer Request) (r : Result Summary Refusal) (w v : Work) → false ≡ is_err r → says r ≡ summary a → RequestIn a w v → Places n w → Places n v
kept_places {n} (answer q) r w v f e h p = subst (Places n) (sym h) (filled_places w 0 q.trees p)
kept_places (refused k) (Ok s) w v f e h p = never_refused (sym e)
kept_places (refused k) (Err y) w v f e h p = let z : ◌≡◌ {A = ℕ} 0 1 = cc in absurd (omega arith)
