-- The requests of a reflected tree, carried out on a table that agrees with a ledger: each is accepted, and each root is replaced in both sequences by
-- its tree's groups.
use mathlib.Core.Path.{◌≡◌, refl, ap, sym, ◌∙◌}
use mathlib.Core.Bool.{false}
use mathlib.Core.List.{List, [], ◌∷◌, ◌++◌, map, append_assoc}
use Prim.Native.Nat.{ℕ, ◌+◌, ◌≤◌}
use native.Mathlib.Omega.{arith}
use lib.Dec.{eqb}
use lib.ListN.{length, length-append}
use borrow.Author.Tests.{ne_eqb}
use Rattle.rules.specs.Answers.{Answer, answer, refused, then}
use Rattle.rules.specs.Limits.{most_rows}
use Rattle.request.specs.Entries.{Entry, entry, pick, sum, one_at, quota_at, total, times}
use Rattle.request.specs.Forest.{Forest, pre_l, pre_r}
use Rattle.request.specs.Request.{Request}
use Rattle.request.specs.Legal.{Legal}
use Rattle.request.specs.Bytes.{request_bytes}
use Rattle.request.specs.Reading.{request_of}
use Rattle.request.specs.Acceptance.{accepted}
use Rattle.request.proofs.Sums.{sum_append, same_length, eqb_same, count_head, quota_none}
use Rattle.request.proofs.Numbering.{pick_false}
use Rattle.request.proofs.Accepting.{Accepted, accept}
use Rattle.request.proofs.Bytes.{request_back}
use Rattle.request_log.proofs.RoundTrip.{Short}
use Rattle.table.specs.Columns.{Table}
use Rattle.refine.specs.Refine.{answer_to, table_after}
use Rattle.ledger.specs.Ledger.{Ledger, replace, accepted_by, exploded_ledger, ledger_refined}
use Rattle.ledger.specs.Calls.{refine, refine_says, ledger_reply, ledger_after, engine_reply, engine_after}
use Rattle.ledger.proofs.Agree.{Meets}
use Rattle.ledger.proofs.OneCall.{says_alike, meets_after}
use Rattle.reflected_tree.specs.Reflected.{Reflected, empty, node, lower_of, group_count, ends_as, groups, groups_r}
use Rattle.reflected_tree.specs.Written.{roots, explode, chain, spread, own_requests, requests_of}
use Rattle.reflected_tree.proofs.Groups.{parts, lower_length, groups_length}
use Rattle.reflected_tree.proofs.Read.{LegalIds}
use Rattle.reflected_accepted.specs.Promise.{carried_out}
use Rattle.reflected_accepted.proofs.Legal.{roots_total, roots_times, roots_length, chain_legal, spread_legal, request_short}

-- a table of 256 rows that agrees with a ledger of these two sequences
pub record State (s : Table) (l r : List Entry) : Type 0 where
  pub ledger : Ledger
  pub meets : Meets s ledger
  pub room : ledger.column_length ≡ most_rows
  pub left_is : ledger.left ≡ l
  pub right_is : ledger.right ≡ r

pub along : {s : Table} {l r l' r' : List Entry} → l ≡ l' → r ≡ r' → State s l r → State s l' r'
along e f k = record { ledger = k.ledger; meets = k.meets; room = k.room; left_is = k.left_is ∙ e; right_is = k.right_is ∙ f }

-- requests whose lengths are numbers are accepted one after another, and lead to such a table
pub record Grown (s : Table) (qs : List Request) (l r : List Entry) : Type 0 where
  pub short : Short (map request_bytes qs)
  pub last : Table
  pub all_accepted : carried_out s (map request_bytes qs) ≡ answer last
  pub state : State last l r

grown_along : {s : Table} {qs : List Request} {l r l' r' : List Entry} → l ≡ l' → r ≡ r' → Grown s qs l r → Grown s qs l' r'
grown_along e f g = record { short = g.short; last = g.last; all_accepted = g.all_accepted; state = along e f g.state }

no_requests : {s : Table} {l r : List Entry} → State s l r → Grown s [] l r
unfolding carried_out
no_requests {s} k = record { short = tt; last = s; all_accepted = refl; state = k }

carried_append : (s : Table) (ps qs : List Request) → carried_out s (map request_bytes (ps ++ qs)) ≡ then (carried_out s (map request_bytes ps)) (λ h. carried_out h (map request_bytes qs))
unfolding carried_out
carried_append s [] qs = refl
carried_append s (p ∷ ps) qs = go (answer_to s (request_bytes p)) _ _ (carried_append (table_after s (request_bytes p)) ps qs)
  where
    go : (a : Answer ℕ) (x y : Answer Table) → x ≡ then y (λ h. carried_out h (map request_bytes qs)) → then a (λ _. x) ≡ then (then a (λ _. y)) (λ h. carried_out h (map request_bytes qs))
    go (answer n) x y e = e
    go (refused n) x y e = refl

short_append : (ps qs : List Request) → Short (map request_bytes ps) → Short (map request_bytes qs) → Short (map request_bytes (ps ++ qs))
short_append [] qs h k = k
short_append (p ∷ ps) qs h k = (h.0, short_append ps qs h.1 k)

both_lists : {s : Table} {ps qs : List Request} {l r l' r' : List Entry} → Grown s ps l r → ((s' : Table) → State s' l r → Grown s' qs l' r')
    → Grown s (ps ++ qs) l' r'
both_lists {s} {ps} {qs} g f =
    let h = f g.last g.state in
    record {
      short = short_append ps qs g.short h.short;
      last = h.last;
      all_accepted = carried_append s ps qs ∙ rw g.all_accepted h.all_accepted;
      state = h.state;
    }

-- ## One request

-- an id replaced where it stands
replace_at : (u w : ℕ) (new a b : List Entry) → times u a ≡ 0 → replace u new (a ++ (entry u w ∷ b)) ≡ a ++ (new ++ b)
unfolding replace
replace_at u w new [] b h = rw (eqb_same u)
replace_at u w new (e ∷ a) b h =
    let p : eqb u e.id ≡ false = pick_false (eqb u e.id) (omega arith) in
    rw p (ap (λ s. e ∷ s) (replace_at u w new a b (omega arith)))

-- bytes of a request that the ledger accepts
module _ {s : Table} {g : Ledger} (m : Meets s g) (bytes : List ℕ) {q : Request} (read : request_of bytes ≡ answer q)
    (ok : accepted g.column_length g.groups q ≡ answer q) where
  answers : answer_to s bytes ≡ answer (length (exploded_ledger q g).groups)
  unfolding engine_reply ledger_reply ledger_refined accepted_by
  answers =
      let e : refine_says (answer_to s bytes) ≡ refine_says (answer (length (exploded_ledger q g).groups)) = says_alike s g m (refine bytes) ∙ rw (read, ok) in
      cc

  meets_exploded : Meets (table_after s bytes) (exploded_ledger q g)
  unfolding engine_after ledger_after ledger_refined accepted_by
  meets_exploded = rw (read, ok) at (meets_after s g m (refine bytes))

-- the id u stands alone with the quota w, and is exploded into the upright trees t
module _ {s : Table} (u w : ℕ) (t : Forest) (a b a' b' : List Entry) (k : State s (a ++ (entry u w ∷ b)) (a' ++ (entry u w ∷ b'))) (legal : Legal (explode u t))
    (once : times u (pre_l t) ≡ 1) (whole : total (pre_l t) ≡ w) (apart : (x : ℕ) → times x a + (times x (pre_l t) + times x b) ≤ 1)
    (fits : length a + (length (pre_l t) + length b) ≤ most_rows) where
  abbrev g : Ledger
  g = k.ledger

  abbrev q : Request
  q = explode u t

  sums_left : (f : Entry → ℕ) → sum f g.groups ≡ sum f a + (f (entry u w) + sum f b)
  sums_left f = sym (k.meets.agree.lefts f) ∙ ap (sum f) k.left_is ∙ sum_append f a (entry u w ∷ b)

  sums_right : (f : Entry → ℕ) → sum f g.groups ≡ sum f a' + (f (entry u w) + sum f b')
  sums_right f = sym (k.meets.agree.rights f) ∙ ap (sum f) k.right_is ∙ sum_append f a' (entry u w ∷ b')

  here : pick (eqb u u) 1 0 ≡ 1
  here = rw (eqb_same u)

  before_l : times u a ≡ 0
  before_l = omega (arith, apart u, once)

  before_r : times u a' ≡ 0
  before_r = omega (arith, sums_left (one_at u), sums_right (one_at u), apart u, once)

  ok : Accepted g.column_length g.groups q
  ok = record {
    known = omega (arith, sums_left (one_at u), here);
    once = once;
    new = λ x d j. let z : pick (eqb x u) 1 0 ≡ 0 = rw (ne_eqb x u d) in omega (arith, sums_left (one_at x), apart x);
    single = λ x. omega (arith, apart x);
    whole =
        let z : pick (eqb u u) w 0 ≡ w = rw (eqb_same u) in
        omega (arith, sums_left (quota_at u), quota_none u a before_l, quota_none u b (omega (arith, apart u, once)), whole);
    fits =
        omega (arith, k.room, same_length g.left g.groups k.meets.agree.lefts, ap length k.left_is, length-append a (entry u w ∷ b), fits);
  }

  state : State (table_after s (request_bytes q)) (a ++ (pre_l t ++ b)) (a' ++ (pre_r t ++ b'))
  unfolding exploded_ledger
  state = record {
    ledger = exploded_ledger q g;
    meets = meets_exploded k.meets (request_bytes q) (request_back q legal) (accept g.column_length g.groups q ok);
    room = k.room;
    left_is = ap (replace u (pre_l t)) k.left_is ∙ replace_at u w (pre_l t) a b before_l;
    right_is = ap (replace u (pre_r t)) k.right_is ∙ replace_at u w (pre_r t) a' b' before_r;
  }

  exploded : Grown s (q ∷ []) (a ++ (pre_l t ++ b)) (a' ++ (pre_r t ++ b'))
  unfolding carried_out
  exploded = record {
    short = (request_short q legal, tt);
    last = table_after s (request_bytes q);
    all_accepted = rw (answers k.meets (request_bytes q) (request_back q legal) (accept g.column_length g.groups q ok));
    state = state;
  }

-- ## A node's own requests

module _ (u l : ℕ) (a b a' b' : List Entry) where
  -- before them: the node's root stands alone, and its groups have room and are no others
  record Before (s : Table) (c : Reflected) : Type 0 where
    ids : LegalIds (node u l c empty)
    state : State s (a ++ (entry u (ends_as c) ∷ b)) (a' ++ (entry u (ends_as c) ∷ b'))
    apart : (x : ℕ) → times x a + (one_at x (entry u 1) + (times x (groups c) + (times x (lower_of l c) + times x b))) ≤ 1
    fits : length a + (ends_as c + length b) ≤ most_rows

  -- after them: its upper group, its children's roots, its lower group
  abbrev After : Table → Reflected → Type 0
  After s c = Grown s (own_requests u l c) (a ++ (entry u 1 ∷ (pre_l (roots c) ++ (lower_of l c ++ b)))) (a' ++ (entry u 1 ∷ (pre_r (roots c) ++ (lower_of l c ++ b'))))

  module _ {s : Table} (v m : ℕ) (d r : Reflected) (h : Before s (node v m d r)) where
    abbrev below : Reflected
    below = node v m d r

    abbrev first_trees : Forest
    first_trees = (chain u l below).trees

    chained : Grown s (chain u l below ∷ []) (a ++ (entry u 1 ∷ entry v (group_count below) ∷ entry l 1 ∷ b)) (a' ++ (entry u 1 ∷ entry v (group_count below) ∷ entry l 1 ∷ b'))
    chained =
        let z : pick (eqb u u) 1 0 ≡ 1 = rw (eqb_same u) in
        let head : (x : ℕ) → pick (eqb x v) 1 0 ≤ times x (groups below) = λ x. omega arith in
        exploded u (ends_as below) first_trees a b a' b' h.state
        (chain_legal u l v m d r h.ids (omega (arith, h.fits)))
        (omega (arith, h.apart u, head u))
        (omega arith)
        (λ x. omega (arith, h.apart x, head x))
        (omega (arith, h.fits))

    -- several children: the second request puts them in the first one's place
    spreads : (s' : Table) → State s' (a ++ (entry u 1 ∷ entry v (group_count below) ∷ entry l 1 ∷ b)) (a' ++ (entry u 1 ∷ entry v (group_count below) ∷ entry l 1 ∷ b'))
        → Grown s' (spread below ∷ []) (a ++ (entry u 1 ∷ (pre_l (roots below) ++ (entry l 1 ∷ b)))) (a' ++ (entry u 1 ∷ (pre_r (roots below) ++ (entry l 1 ∷ b'))))
    spreads s' k =
        grown_along (append_assoc a (entry u 1 ∷ []) _) (append_assoc a' (entry u 1 ∷ []) _)
        (exploded v (group_count below) (roots below) (a ++ (entry u 1 ∷ [])) (entry l 1 ∷ b) (a' ++ (entry u 1 ∷ [])) (entry l 1 ∷ b')
        (along (sym (append_assoc a (entry u 1 ∷ []) _)) (sym (append_assoc a' (entry u 1 ∷ []) _)) k)
        (spread_legal v m d r h.ids.2 (omega (arith, h.fits)))
        (omega (arith, count_head v (pre_l (roots r)), roots_times v below, h.apart v))
        (roots_total below)
        (λ x. omega (arith, sum_append (one_at x) a (entry u 1 ∷ []), roots_times x below, h.apart x))
        (omega (arith, length-append a (entry u 1 ∷ []), roots_length below, h.fits)))

  own_grown : (s : Table) (c : Reflected) → Before s c → After s c
  own_grown s empty h = no_requests h.state
  own_grown s (node v m d empty) h =
      -- one child: it is the chain's second entry
      let z : group_count (node v m d empty) ≡ ends_as d = omega arith in
      grown_along
      (ap (λ k. a ++ (entry u 1 ∷ entry v k ∷ entry l 1 ∷ b)) z)
      (ap (λ k. a' ++ (entry u 1 ∷ entry v k ∷ entry l 1 ∷ b')) z)
      (chained v m d empty h)
  own_grown s (node v m d (node w k e r)) h = both_lists (chained v m d (node w k e r) h) (spreads v m d (node w k e r) h)

-- ## The whole: each root is replaced by its tree's groups

pub trees_grown : (t : Reflected) → LegalIds t → (a b a' b' : List Entry) (s : Table) → State s (a ++ (pre_l (roots t) ++ b)) (a' ++ (pre_r (roots t) ++ b'))
    → ((x : ℕ) → times x a + (times x (groups t) + times x b) ≤ 1) → length a + (group_count t + length b) ≤ most_rows
    → Grown s (requests_of t) (a ++ (groups t ++ b)) (a' ++ (groups_r t ++ b'))
trees_grown empty ids a b a' b' s k apart fits = no_requests k
trees_grown (node u l c r) ids a b a' b' s k apart fits =
    both_lists
    (own_grown u l a (pre_l (roots r) ++ b) (a' ++ pre_r (roots r)) b' s c
    (record {
      ids = (ids.0, ids.1, ids.2, tt);
      state = along refl (simp append_assoc) k;
      apart = λ x. omega (arith, parts (one_at x) u l c r, apart x, sum_append (one_at x) (pre_l (roots r)) b, roots_times x r);
      fits = omega (arith, fits, length-append (pre_l (roots r)) b, roots_length r);
    }))
    (λ h i.
    both_lists
    (trees_grown c ids.2 (a ++ (entry u 1 ∷ [])) (lower_of l c ++ (pre_l (roots r) ++ b)) ((a' ++ pre_r (roots r)) ++ (entry u 1 ∷ [])) (lower_of l c ++ b') h
    (along (simp append_assoc) (simp append_assoc) i)
    (λ x.
    omega (
      arith,
      parts (one_at x) u l c r,
      apart x,
      sum_append (one_at x) a (entry u 1 ∷ []),
      sum_append (one_at x) (lower_of l c) (pre_l (roots r) ++ b),
      sum_append (one_at x) (pre_l (roots r)) b,
      roots_times x r,
    ))
    (omega (
      arith,
      fits,
      length-append a (entry u 1 ∷ []),
      length-append (lower_of l c) (pre_l (roots r) ++ b),
      length-append (pre_l (roots r)) b,
      roots_length r,
      lower_length l c,
    )))
    (λ n j.
    grown_along (simp append_assoc) (simp append_assoc)
    (trees_grown r ids.3 (a ++ (entry u 1 ∷ (groups c ++ lower_of l c))) b a' (entry u 1 ∷ (groups_r c ++ (lower_of l c ++ b'))) n
    (along (simp append_assoc) (simp append_assoc) j)
    (λ x.
    omega (
      arith,
      parts (one_at x) u l c r,
      apart x,
      sum_append (one_at x) a (entry u 1 ∷ (groups c ++ lower_of l c)),
      sum_append (one_at x) (groups c) (lower_of l c),
    ))
    (omega (
      arith,
      fits,
      length-append a (entry u 1 ∷ (groups c ++ lower_of l c)),
      length-append (groups c) (lower_of l c),
      groups_length c,
      lower_length l c,
    )))))
