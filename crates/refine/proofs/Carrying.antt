-- A request that was read and judged: what the code asks and leaves, from what its calls say.
use Rattle.std.specs.Prelude.{Ok}
use mathlib.Core.Path.{◌≡◌, ap, sym, ◌∙◌}
use mathlib.Core.List.{List, [], ◌∷◌, ◌++◌, map, map-append}
use Prim.Native.Nat.{ℕ, zero, suc, ◌+◌, ◌-◌, ◌≤◌, ◌<◌}
use native.Mathlib.Omega.{arith}
use lib.ListN.{length, get_or, take, length-map}
use lib.Seq.{sets, length-sets, length-take-le}
use Rattle.rules.specs.Answers.{answer, refused, then}
use Rattle.rules.specs.Capacities.{entry_capacity}
use Rattle.rules.specs.Limits.{greatest, most_entries}
use Rattle.rules.specs.Buffers.{Bytes}
use Rattle.rules.proofs.Answers.{same_answer, never_refused, by_answer, then_answer, then_refused}
use Rattle.request.specs.Entries.{Entry, quota, before}
use Rattle.request.specs.Numbering.{whole}
use Rattle.request.specs.Request.{Request, entries, left_of, right_of}
use Rattle.request.specs.Reading.{request_of}
use Rattle.request.specs.Acceptance.{accepted}
use Rattle.reading.specs.Summary.{summary}
use Rattle.reading.specs.declared.Summary.{Summary}
use Rattle.request.proofs.Accepting.{request_accepted}
use Rattle.request.proofs.Numbering.{size_length}
use Rattle.request.proofs.ReadLaws.{request_read, request_legal}
use Rattle.request.specs.Forest.{Forest, none, tree, pre_l}
use Rattle.request.specs.Legal.{LegalNumber, LegalTrees}
use Rattle.table.specs.declared.Row.{Row}
use Rattle.table.specs.Columns.{Columns, columns, row_at, rows, counted, afterwards}
use Rattle.table.specs.Check.{checked}
use Rattle.table.specs.Places.{place_of}
use Rattle.judging.specs.Judging.{judged_in}
use Rattle.judging.proofs.Accepting.{judged_row}
use Rattle.judging.proofs.CollectingLaws.{front_sets}
use Rattle.numbering.specs.Numbered.{EntriesIn, left_numbers, right_numbers}
use Rattle.refine.specs.Refine.{groups_of, exploded_rows, refined}
use Rattle.refine.specs.Inside.Placing.{placed_all, HasRows, Bounded, CanPlace}
use Rattle.refine.specs.Inside.Verdicts.{Settles}
use Rattle.refine.proofs.Accepting.{passed, judged_rows}
use Rattle.refine.proofs.Written.{rows_counted_lem, left_numbers_lem, right_numbers_lem, left_bounded, right_bounded, has_rows, columns_after_lem}

-- a request that was read: its exploded id x, its m entries and all their quota z
pub record Given (bytes : List ℕ) (x m z : ℕ) : Type 0 where
  pub request : Request
  pub is : request_of bytes ≡ answer request
  pub exploded_is : x ≡ request.exploded
  pub entries_are : m ≡ length (entries request)
  pub entries_some : 1 ≤ m
  pub entries_most : m ≤ most_entries
  pub quota_is : z ≡ whole request.trees

pub given : (bytes : List ℕ) {f : Summary} → answer f ≡ summary (request_of bytes) → Given bytes f.exploded f.entries f.quota
given bytes e =
    by_answer (request_of bytes)
    (λ q k.
    let f = same_answer (e ∙ ap summary k) in
    let n = ap (λ (s : Summary). s.entries) f ∙ size_length q.trees in
    let r = request_read bytes k in
    record {
      request = q;
      is = k;
      exploded_is = ap (λ (s : Summary). s.exploded) f;
      entries_are = n;
      entries_some = omega (arith, n, r.entries_some);
      entries_most = omega (arith, n, r.entries_most);
      quota_is = ap (λ (s : Summary). s.quota) f;
    })
    (λ n k. never_refused (sym (e ∙ ap summary k)))

-- a request that was refused as it was read, or judged
pub unread : (c : Columns) (n : ℕ) (bytes : List ℕ) {k : ℕ} → checked c n ≡ answer (rows c n) → refused k ≡ summary (request_of bytes) → refined c n bytes ≡ refused k
unfolding refined
unread c n bytes good e = rw (good, then_refused (request_of bytes) _ (sym e))

-- columns are the same where each of the four is
pub columns_are : {id id' l l' r r' q q' : List ℕ} → id ≡ id' → l ≡ l' → r ≡ r' → q ≡ q' → columns id l r q ≡ columns id' l' r' q'
columns_are a b c d = rw (a, b, c, d)

-- a work column keeps its length
pub filled : (s vs : List ℕ) {s' : List ℕ} → s' ≡ sets s 0 vs → length s ≡ entry_capacity → length s' ≡ entry_capacity
filled s vs e k = ap length e ∙ length-sets s 0 vs ∙ k

-- the entries at the front of the columns
module _ {bytes : List ℕ} {x m z : ℕ} (g : Given bytes x m z) (ids ids' quotas quotas' : List ℕ) (h : EntriesIn (request_of bytes) ids ids' quotas quotas') where
  stands : (ids' ≡ sets ids 0 (map (λ e. e.id) (entries g.request))) × (quotas' ≡ sets quotas 0 (map quota (entries g.request)))
  stands = rw g.is at h

  pub ids_front : length ids ≡ entry_capacity → take m ids' ≡ map (λ e. e.id) (entries g.request)
  ids_front e =
      let vs = map (λ (e : Entry). e.id) (entries g.request) in
      ap (take m) stands.0 ∙ front_sets ids vs m (length-map (entries g.request) _ ∙ sym g.entries_are) (omega (arith, g.entries_most))

  pub quotas_front : length quotas ≡ entry_capacity → take m quotas' ≡ map quota (entries g.request)
  quotas_front e =
      let vs = map quota (entries g.request) in
      ap (take m) stands.1 ∙ front_sets quotas vs m (length-map (entries g.request) quota ∙ sym g.entries_are) (omega (arith, g.entries_most))

  pub ids_length : length ids ≡ entry_capacity → length ids' ≡ entry_capacity
  ids_length = filled ids (map (λ e. e.id) (entries g.request)) stands.0

  pub quotas_length : length quotas ≡ entry_capacity → length quotas' ≡ entry_capacity
  quotas_length = filled quotas (map quota (entries g.request)) stands.1

-- ids and quotas are at most the greatest number
append_most : (s t : List ℕ) → ((k : ℕ) → get_or s k 0 ≤ greatest) → ((k : ℕ) → get_or t k 0 ≤ greatest) → (k : ℕ) → get_or (s ++ t) k 0 ≤ greatest
append_most [] t a b k = b k
append_most (x ∷ s) t a b zero = a 0
append_most (x ∷ s) t a b (suc k) = append_most s t (λ j. a (suc j)) b k

legal_most : (f : Entry → ℕ) → ((e : Entry) → LegalNumber e.id × LegalNumber e.quota → f e ≤ greatest) → (t : Forest) → LegalTrees t → (k : ℕ) → get_or (map f (pre_l t)) k 0 ≤ greatest
legal_most f h none a k = omega arith
legal_most f h (tree e c r) a zero = h e (a.0, a.1)
legal_most f h (tree e c r) a (suc k) = rw (map-append f (pre_l c) (pre_l r)) (append_most (map f (pre_l c)) (map f (pre_l r)) (legal_most f h c a.2) (legal_most f h r a.3) k)

legal_ids : (t : Forest) → LegalTrees t → (k : ℕ) → get_or (map (λ e. e.id) (pre_l t)) k 0 ≤ greatest
legal_ids = legal_most (λ e. e.id) (λ e a. a.0.1)

legal_quotas : (t : Forest) → LegalTrees t → (k : ℕ) → get_or (map quota (pre_l t)) k 0 ≤ greatest
legal_quotas = legal_most quota (λ e a. a.1.1)

-- numbers at the front of a column
numbers_front : {bytes : List ℕ} {x m z : ℕ} (g : Given bytes x m z) (s s' vs : List ℕ) (f : Entry → ℕ) → s' ≡ sets s 0 vs → vs ≡ map f (entries g.request) → length s ≡ entry_capacity
    → take m s' ≡ map f (entries g.request)
numbers_front {m = m} g s s' vs f h e k =
    let n = ap length e ∙ length-map (entries g.request) f in
    ap (take m) h ∙ front_sets s vs m (omega (arith, n, g.entries_are)) (omega (arith, g.entries_most)) ∙ e

module _ (c : Columns) (n : ℕ) (good : checked c n ≡ answer (rows c n)) {bytes : List ℕ} {x m z : ℕ} (g : Given bytes x m z)
    (ids' : List ℕ) (ids_front : take m ids' ≡ map (λ e. e.id) (entries g.request)) where
  abbrev own : ℕ
  own = place_of c.id n g.request.exploded

  judged_of : judged_in (take n c.id) (take n c.q) (length c.id) x (take m ids') z ≡ then (accepted (length c.id) (groups_of (rows c n)) g.request) λ _. answer own
  judged_of = rw (g.exploded_is, ids_front, g.quota_is) (judged_rows c n good g.request)

  pub judged_refused : {k : ℕ} → refused k ≡ judged_in (take n c.id) (take n c.q) (length c.id) x (take m ids') z → refined c n bytes ≡ refused k
  unfolding refined exploded_rows
  judged_refused e = rw (good, g.is, then_refused (accepted (length c.id) (groups_of (rows c n)) g.request) (λ _. own) (sym (e ∙ judged_of)))

  module _ {i : ℕ} (e : answer i ≡ judged_in (take n c.id) (take n c.q) (length c.id) x (take m ids') z) where
    found : (y : Request) × (accepted (length c.id) (groups_of (rows c n)) g.request ≡ answer y) × (answer own ≡ answer i)
    found = then_answer (accepted (length c.id) (groups_of (rows c n)) g.request) (λ _. answer own) (sym (e ∙ judged_of))

    ok : accepted (length c.id) (groups_of (rows c n)) g.request ≡ answer g.request
    ok = found.1 ∙ ap answer (sym (request_accepted (length c.id) (groups_of (rows c n)) g.request found.1).1)

    own_is : i ≡ own
    own_is = sym (same_answer found.2)

    inside : own < n
    inside =
        let h = (judged_row (take n c.id) (take n c.q) (length c.id) x (take m ids') z (sym e)).1 in
        omega (arith, own_is, h, length-take-le n c.id (passed c n good).most)

    module _ (l l' r r' : List ℕ) (hl : l' ≡ sets l 0 (left_numbers (request_of bytes))) (hr : r' ≡ sets r 0 (right_numbers (request_of bytes)))
        (ll : length l ≡ entry_capacity) (rl : length r ≡ entry_capacity) where
      l_front : take m l' ≡ map (λ e. 0 + before e.id (left_of g.request)) (entries g.request)
      l_front = numbers_front g l l' _ _ hl (left_numbers_lem c n good bytes g.is ok inside) ll

      r_front : take m r' ≡ map (λ e. 0 + before e.id (right_of g.request)) (entries g.request)
      r_front = numbers_front g r r' _ _ hr (right_numbers_lem c n good bytes g.is ok inside) rl

      -- what the writing asks
      asks : HasRows x i n (take m ids') c.id × (Bounded (get_or c.l i 0) (take m l')) × (Bounded (get_or c.r i 0) (take m r'))
      asks =
          rw (own_is, g.exploded_is, ids_front, l_front, r_front)
          (has_rows c n good bytes g.is ok inside, left_bounded c n good bytes g.is ok inside, right_bounded c n good bytes g.is ok inside)

      -- what it leaves
      lands : (quotas' : List ℕ) → take m quotas' ≡ map quota (entries g.request)
          → (answer (n + m - 1) ≡ counted (refined c n bytes)) × (placed_all (record { exploded = x; own = i; old = row_at c i; next = n; entries = m }) ids' quotas' l' r' c ≡ afterwards (refined c n bytes) c)
      unfolding refined exploded_rows
      lands quotas' eq =
          rw (good, g.is, ok) (
            ap answer (sym (rows_counted_lem c n good bytes g.is ok ∙ ap (λ k. n + k - 1) (sym g.entries_are))),
            rw (own_is, g.exploded_is) (columns_after_lem c n good bytes g.is ok inside m ids' quotas' l' r' (ids_front) eq l_front r_front),
          )

      pub settles : Bytes bytes → (quotas' : List ℕ) → take m quotas' ≡ map quota (entries g.request) → length ids' ≡ entry_capacity → length quotas' ≡ entry_capacity
          → {old : Row} → old ≡ row_at c i → Settles c n bytes ids' quotas' l' r' (Ok (record { exploded = x; own = i; old = old; next = n; entries = m }))
      settles b quotas' eq il ql {old} was =
          let p = passed c n good in
          let bound = g.entries_most in
          let legal = (request_legal bytes b g.is).trees in
          let place : CanPlace (record { exploded = x; own = i; old = row_at c i; next = n; entries = m }) ids' quotas' l' r' c = record {
            most = omega (arith, bound);
            in_ids = omega (arith, bound, il);
            in_quotas = omega (arith, bound, ql);
            in_l = omega (arith, bound, filled l (left_numbers (request_of bytes)) hl ll);
            in_r = omega (arith, bound, filled r (right_numbers (request_of bytes)) hr rl);
            next_in = p.most;
            id_rows = asks.0;
            l_rows = (asks.0.0, omega (arith, asks.0.1, p.lengths.in_l));
            r_rows = (asks.0.0, omega (arith, asks.0.1, p.lengths.in_r));
            q_rows = (asks.0.0, omega (arith, asks.0.1, p.lengths.in_q));
            ids_bounded = λ k h. rw ids_front (omega (arith, legal_ids g.request.trees legal k));
            l_bounded = asks.1;
            r_bounded = asks.2;
            quotas_bounded = λ k h. rw eq (omega (arith, legal_quotas g.request.trees legal k));
          } in
          rw was (place, (lands quotas' eq).0, (lands quotas' eq).1)
