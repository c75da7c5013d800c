-- What is written of the nodes that are stored.
use Rattle.std.proofs.Common.{◌≡◌, ℕ, zero, suc, ◌+◌, ◌-◌, ◌*◌, ◌<◌, ◌≤◌, cond, ltb, List, [], ◌∷◌, ◌++◌, length, refl, ap, sym, ◌∙◌, arith, length-append, drop, get_or, drop-cons, add-one, append_assoc, append-nil}
use mathlib.Core.List.{flat_map}
use borrow.Author.Tests.{ne_eqb, lt-ltb, le-ltb}
use Rattle.rules.proofs.Cases.{by_lt, by_eq}
use Rattle.std.proofs.lemmas.List.{drop_all}
use Rattle.number.specs.Number.{bytes_of}
use Rattle.number.proofs.Laws.{number_count}
use Rattle.writer.specs.Writing.{Wrote, WroteAll, HasRoom}
use Rattle.writer.specs.declared.Writer.{Writer}
use Rattle.writer.proofs.Writing.{wrote_all}
use Rattle.request.specs.Request.{Request}
use Rattle.request.specs.Bytes.{tree_count, trees_bytes, request_bytes}
use Rattle.request_log.specs.Log.{requests_bytes}
use Rattle.reflected_tree.specs.Reading.{most_nodes}
use Rattle.reflected.specs.declared.nodes.Node.{Node}
use Rattle.reflected.specs.Inside.Writing.{node_in, roots_at, chain_of, spread_at, own_at, numbers_bytes, sized, sized_all, Walks, Sound}
use Rattle.reflected.proofs.Parts.{left_all, left_next, left_write, left_last, both_count}

-- ## Numbers

pub numbers_most : (s : List ℕ) → length (numbers_bytes s) ≤ 5 * length s
unfolding numbers_bytes flat_map
numbers_most [] = omega arith
numbers_most (n ∷ s) = omega (arith, length-append (bytes_of n) (numbers_bytes s), number_count n, numbers_most s)

pub numbers_few : (s : List ℕ) → length s ≤ 12 → length (numbers_bytes s) ≤ 60
numbers_few s h = omega (arith, numbers_most s)

-- those from a place on
pub numbers_next : (s : List ℕ) (i : ℕ) → i < length s → numbers_bytes (drop i s) ≡ bytes_of (get_or s i 0) ++ numbers_bytes (drop (i + 1) s)
unfolding numbers_bytes flat_map
numbers_next s i h = rw (drop-cons s i 0, add-one)

pub numbers_step : (s : List ℕ) (i : ℕ) → i < length s
    → length (numbers_bytes (drop i s)) ≡ length (bytes_of (get_or s i 0)) + length (numbers_bytes (drop (i + 1) s))
numbers_step s i h = both_count (bytes_of (get_or s i 0)) (numbers_bytes (drop (i + 1) s)) (numbers_next s i h)

pub numbers_none : (s : List ℕ) (i : ℕ) → length s ≤ i → numbers_bytes (drop i s) ≡ []
unfolding numbers_bytes flat_map
numbers_none s i h = rw (drop_all i s h)

-- ## Nodes side by side

-- the first one's bytes
abbrev pub root_bytes : Node → List ℕ
root_bytes n = numbers_bytes (n.upper ∷ n.groups ∷ 0 ∷ [])

roots_more : (nodes : List Node) (at count : ℕ) → trees_bytes (roots_at nodes at (suc count))
    ≡ root_bytes (node_in nodes at) ++ trees_bytes (roots_at nodes (node_in nodes at).end count)
unfolding numbers_bytes trees_bytes flat_map
roots_more nodes at count = simp (append_assoc, append-nil)

pub roots_most : (nodes : List Node) (at count : ℕ) → length (trees_bytes (roots_at nodes at count)) ≤ 15 * count
unfolding trees_bytes
roots_most nodes at zero = omega arith
roots_most nodes at (suc count) =
    let n = node_in nodes at in
    omega (
      arith,
      both_count (root_bytes n) (trees_bytes (roots_at nodes n.end count)) (roots_more nodes at count),
      numbers_most (n.upper ∷ n.groups ∷ 0 ∷ []),
      roots_most nodes n.end count,
    )

-- `done` of which are behind
module _ (nodes : List Node) (at count done : ℕ) where
  pub walks_next : done < count → Walks nodes at (count - done) → (at < length nodes) × Walks nodes (node_in nodes at).end (count - (done + 1))
  walks_next h w = let e : count - done ≡ suc (count - (done + 1)) = omega arith in rw e at w

  pub roots_next : done < count → trees_bytes (roots_at nodes at (count - done))
      ≡ root_bytes (node_in nodes at) ++ trees_bytes (roots_at nodes (node_in nodes at).end (count - (done + 1)))
  roots_next h = let e : count - done ≡ suc (count - (done + 1)) = omega arith in rw e (roots_more nodes at (count - (done + 1)))

  pub roots_step : done < count → length (trees_bytes (roots_at nodes at (count - done)))
      ≡ length (root_bytes (node_in nodes at)) + length (trees_bytes (roots_at nodes (node_in nodes at).end (count - (done + 1))))
  roots_step h = both_count (root_bytes (node_in nodes at)) (trees_bytes (roots_at nodes (node_in nodes at).end (count - (done + 1)))) (roots_next h)

  pub roots_none : count ≤ done → trees_bytes (roots_at nodes at (count - done)) ≡ []
  unfolding trees_bytes
  roots_none h = let e : count - done ≡ 0 = omega arith in rw e

-- ## Requests, each after its length

module _ (bytes : List ℕ) {n : ℕ} (e : n ≡ length bytes) where
  pub sized_by : sized bytes ≡ bytes_of n ++ bytes
  unfolding sized
  sized_by = rw e

  pub sized_count : n + length (bytes_of n) ≡ length (sized bytes)
  sized_count = omega (arith, both_count (bytes_of n) bytes sized_by)

pub number_written : {old new : Writer} (n : ℕ) → Wrote old new (bytes_of n) → HasRoom old (length (bytes_of n)) → WroteAll old new (bytes_of n)
number_written n w h = wrote_all w h

-- the length, and then the bytes
pub sized_written : {a b c : Writer} (bytes : List ℕ) {x : List ℕ} {n : ℕ} → Wrote a b (bytes_of n) → WroteAll b c x → n ≡ length x → x ≡ bytes
    → HasRoom a (length (sized bytes)) → WroteAll a c (sized bytes)
sized_written {a} bytes w v e f h = left_last f (left_write (sized_by bytes (e ∙ ap length f)) (left_all a (sized bytes) h) w) v

pub listed_none : sized_all [] ≡ []
unfolding sized_all requests_bytes flat_map
listed_none = refl

pub listed_more : (q : Request) (s : List Request) → sized_all (q ∷ s) ≡ sized (request_bytes q) ++ sized_all s
unfolding sized_all requests_bytes flat_map sized
listed_more q s = refl

pub listed_one : (q : Request) → sized_all (q ∷ []) ≡ sized (request_bytes q)
listed_one q = rw (listed_more q [], listed_none) (append-nil (sized (request_bytes q)))

pub listed_both : (s t : List Request) → sized_all (s ++ t) ≡ sized_all s ++ sized_all t
listed_both [] t = rw listed_none
listed_both (q ∷ s) t = rw (listed_more q (s ++ t), listed_more q s, listed_both s t) (sym (append_assoc (sized (request_bytes q)) (sized_all s) (sized_all t)))

-- ## A spread, and what a node gives

roots_count : (nodes : List Node) (i count : ℕ) → tree_count (roots_at nodes i count) ≡ count
roots_count nodes i zero = refl
roots_count nodes i (suc count) = ap suc (roots_count nodes (node_in nodes i).end count)

abbrev pub head_bytes : Node → ℕ → List ℕ
head_bytes n count = numbers_bytes (n.upper ∷ 0 ∷ count ∷ [])

pub spread_parts : (nodes : List Node) (i count : ℕ) → request_bytes (spread_at nodes i count) ≡ head_bytes (node_in nodes i) count ++ trees_bytes (roots_at nodes i count)
unfolding request_bytes numbers_bytes flat_map
spread_parts nodes i count = rw roots_count (simp (append_assoc, append-nil))

pub spread_step : (nodes : List Node) (i count : ℕ)
    → length (request_bytes (spread_at nodes i count)) ≡ length (head_bytes (node_in nodes i) count) + length (trees_bytes (roots_at nodes i count))
spread_step nodes i count = both_count (head_bytes (node_in nodes i) count) (trees_bytes (roots_at nodes i count)) (spread_parts nodes i count)

pub spread_most : (nodes : List Node) (i count : ℕ) → length (request_bytes (spread_at nodes i count)) ≤ 15 + 15 * count
spread_most nodes i count =
    let n = node_in nodes i in
    omega (arith, spread_step nodes i count, numbers_most (n.upper ∷ 0 ∷ count ∷ []), roots_most nodes i count)

-- the length, the beginning, and then the children
pub spread_written : {a b c d : Writer} (nodes : List Node) (i count : ℕ) {n : ℕ} → Wrote a b (bytes_of n) → WroteAll b c (head_bytes (node_in nodes i) count)
    → WroteAll c d (trees_bytes (roots_at nodes i count)) → n ≡ length (request_bytes (spread_at nodes i count))
    → HasRoom a (length (sized (request_bytes (spread_at nodes i count)))) → WroteAll a d (sized (request_bytes (spread_at nodes i count)))
spread_written {a} nodes i count w v u e h =
    let b = request_bytes (spread_at nodes i count) in
    left_last refl (left_next (spread_parts nodes i count) (left_write (sized_by b e) (left_all a (sized b) h) w) v) u

-- a chain's numbers
abbrev pub chain_list : Node → ℕ → List ℕ
chain_list n first = n.upper ∷ 0 ∷ 1 ∷ n.upper ∷ 1 ∷ 1 ∷ first ∷ (n.groups - 2) ∷ 1 ∷ n.lower ∷ 1 ∷ 0 ∷ []

pub chain_parts : (n : Node) (first : ℕ) → numbers_bytes (chain_list n first) ≡ request_bytes (chain_of n first)
unfolding numbers_bytes request_bytes trees_bytes flat_map
chain_parts n first = simp (append_assoc, append-nil)

chain_most : (n : Node) (first : ℕ) → length (request_bytes (chain_of n first)) ≤ 60
chain_most n first = rw (← chain_parts n first) (numbers_few (chain_list n first) (omega arith))

module _ (nodes : List Node) (i : ℕ) where
  abbrev children : ℕ
  children = (node_in nodes i).children

  abbrev pub own_chain : Request
  own_chain = chain_of (node_in nodes i) (node_in nodes (i + 1)).upper

  abbrev pub own_spread : Request
  own_spread = spread_at nodes (i + 1) children

  -- what comes after the chain
  pub own_rest : List ℕ
  own_rest = sized_all (cond (ltb 1 children) (own_spread ∷ []) [])

  pub own_none : children ≡ 0 → sized_all (own_at nodes i) ≡ []
  unfolding own_at
  own_none e = rw e listed_none

  pub own_some : (children ≡ 0 → ⊥) → sized_all (own_at nodes i) ≡ sized (request_bytes own_chain) ++ own_rest
  unfolding own_at own_rest
  own_some h = rw (ne_eqb children 0 h) (listed_more own_chain (cond (ltb 1 children) (own_spread ∷ []) []))

  pub own_step : (children ≡ 0 → ⊥) → length (sized_all (own_at nodes i)) ≡ length (sized (request_bytes own_chain)) + length own_rest
  own_step h = both_count (sized (request_bytes own_chain)) own_rest (own_some h)

  pub rest_some : 1 < children → own_rest ≡ sized (request_bytes own_spread)
  unfolding own_rest
  rest_some h = rw (lt-ltb 1 children h) (listed_one own_spread)

  pub rest_none : children ≤ 1 → own_rest ≡ []
  unfolding own_rest
  rest_none h = rw (le-ltb 1 children h) listed_none

  pub both_written : {a b c : Writer} → WroteAll a b (sized (request_bytes own_chain)) → WroteAll b c (sized (request_bytes own_spread)) → 1 < children
      → HasRoom a (length (sized_all (own_at nodes i))) → WroteAll a c (sized_all (own_at nodes i))
  both_written {a} w v h r =
      let n : children ≡ 0 → ⊥ = λ e. omega arith in
      left_last (sym (rest_some h)) (left_next (own_some n) (left_all a (sized_all (own_at nodes i)) r) w) v

  pub own_one : children ≡ 1 → sized_all (own_at nodes i) ≡ sized (request_bytes own_chain)
  own_one e = own_some (λ z. omega arith) ∙ rw (rest_none (omega arith)) (append-nil (sized (request_bytes own_chain)))

  sized_most : (bytes : List ℕ) → length (sized bytes) ≤ length bytes + 5
  sized_most bytes = omega (arith, sized_count bytes refl, number_count (length bytes))

  chain_short : length (sized (request_bytes own_chain)) ≤ 65
  chain_short = omega (arith, sized_most (request_bytes own_chain), chain_most (node_in nodes i) (node_in nodes (i + 1)).upper)

  rest_short : children ≤ most_nodes → length own_rest ≤ 980
  rest_short h =
      by_lt 1 children
      (λ l. omega (arith, ap length (rest_some l), sized_most (request_bytes own_spread), spread_most nodes (i + 1) children))
      (λ l. omega (arith, ap length (rest_none l)))

  pub own_most : children ≤ most_nodes → length (sized_all (own_at nodes i)) ≤ 1045
  own_most h =
      by_eq children 0
      (λ e. omega (arith, ap length (own_none e)))
      (λ n. omega (arith, own_step n, chain_short, rest_short h))

-- ## What the nodes give, one after another

-- as many nodes from a place on
abbrev pub requests_at : List Node → ℕ → ℕ → List Request
requests_at nodes i zero = []
requests_at nodes i (suc count) = own_at nodes i ++ requests_at nodes (i + 1) count

module _ (nodes : List Node) where
  requests_more : (i count : ℕ) → sized_all (requests_at nodes i (suc count)) ≡ sized_all (own_at nodes i) ++ sized_all (requests_at nodes (i + 1) count)
  requests_more i count = listed_both (own_at nodes i) (requests_at nodes (i + 1) count)

  pub requests_most : (i count : ℕ) → ((j : ℕ) → j < i + count → (node_in nodes j).children ≤ most_nodes) → length (sized_all (requests_at nodes i count)) ≤ 1045 * count
  requests_most i zero h = rw listed_none (omega arith)
  requests_most i (suc count) h =
      omega (
        arith,
        both_count (sized_all (own_at nodes i)) (sized_all (requests_at nodes (i + 1) count)) (requests_more i count),
        own_most nodes i (h i (omega arith)),
        requests_most (i + 1) count (λ j k. h j (omega arith)),
      )

  module _ (i count : ℕ) where
    pub requests_next : i < count → sized_all (requests_at nodes i (count - i)) ≡ sized_all (own_at nodes i) ++ sized_all (requests_at nodes (i + 1) (count - (i + 1)))
    requests_next h = let e : count - i ≡ suc (count - (i + 1)) = omega arith in rw e (requests_more i (count - (i + 1)))

    pub requests_step : i < count → length (sized_all (requests_at nodes i (count - i))) ≡ length (sized_all (own_at nodes i)) + length (sized_all (requests_at nodes (i + 1) (count - (i + 1))))
    requests_step h = both_count (sized_all (own_at nodes i)) (sized_all (requests_at nodes (i + 1) (count - (i + 1)))) (requests_next h)

    pub requests_none : count ≤ i → sized_all (requests_at nodes i (count - i)) ≡ []
    requests_none h = let e : count - i ≡ 0 = omega arith in rw e listed_none

-- ## The list: the root's pair, and what all nodes give

unfoldable pub list_of : List Node → ℕ → List ℕ
list_of nodes count = bytes_of (node_in nodes 0).upper ++ (bytes_of (node_in nodes 0).groups ++ sized_all (requests_at nodes 0 count))

abbrev pub pair_bytes : Node → List ℕ
pair_bytes n = numbers_bytes (n.upper ∷ n.groups ∷ [])

pub list_parts : (nodes : List Node) (count : ℕ) → list_of nodes count ≡ pair_bytes (node_in nodes 0) ++ sized_all (requests_at nodes 0 (count - 0))
unfolding list_of numbers_bytes flat_map
list_parts nodes count = let e : count - 0 ≡ count = omega arith in rw e (simp (append_assoc, append-nil))

pub list_step : (nodes : List Node) (count : ℕ) → length (list_of nodes count) ≡ length (pair_bytes (node_in nodes 0)) + length (sized_all (requests_at nodes 0 (count - 0)))
list_step nodes count = both_count (pair_bytes (node_in nodes 0)) (sized_all (requests_at nodes 0 (count - 0))) (list_parts nodes count)

pub list_most : (nodes : List Node) (count : ℕ) → ((i : ℕ) → i < count → Sound nodes i) → length (list_of nodes count) ≤ 60 + 1045 * count
list_most nodes count h =
    let n = node_in nodes 0 in
    omega (arith, list_step nodes count, numbers_few (n.upper ∷ n.groups ∷ []) (omega arith), requests_most nodes 0 (count - 0) (λ j k. (h j (omega arith)).few))
