-- The bytes of every legal request read back as that request.
use mathlib.Core.Path.{◌≡◌, refl, sym, ◌∙◌, ap}
use mathlib.Core.Bool.{Bool, true, false}
use mathlib.Core.List.{List, [], ◌++◌, append_assoc, append-nil}
use Prim.Native.Nat.{ℕ, zero, suc, ◌+◌, ◌≤◌, ◌<◌}
use native.Mathlib.Omega.{arith}
use lib.Dec.{leb}
use lib.ListN.{length, take, drop, length-append, length-drop, length-take, take-append-drop}
use lib.Seq.{drop-append_seam, drop-append-add}
use borrow.Author.Tests.{ne_eqb, lt-ltb, le-ltb, leb-true, leb-false}
use Rattle.rules.specs.Answers.{answer}
use Rattle.rules.specs.Limits.{greatest, most_entries, greatest_depth}
use Rattle.number.specs.Number.{number_at, bytes_of, found}
use Rattle.number.proofs.Laws.{number_back, number_count}
use Rattle.request.specs.Entries.{Entry, pick}
use Rattle.request.specs.Forest.{Forest, none, tree, Direction, upright, inverted}
use Rattle.request.specs.Numbering.{size}
use Rattle.request.specs.Request.{Request}
use Rattle.request.specs.Legal.{depth, LegalNumber, LegalTrees, Legal}
use Rattle.request.specs.Bytes.{tree_count, direction_number, trees_bytes, request_bytes}
use Rattle.request.specs.Reading.{positive_at, entry_at, trees_by, tree_by, not_full, trees_at, direction_of, request_of}
use Rattle.request.proofs.Numbering.{size_length}

-- ## Numbers and entries

-- a number's bytes at a position: it is read, and what follows it stands at the next position
drawn : (bytes : List ℕ) (at value : ℕ) (rest : List ℕ) → value ≤ greatest → drop at bytes ≡ bytes_of value ++ rest
    → (number_at bytes at ≡ found value (at + length (bytes_of value))) × (drop (at + length (bytes_of value)) bytes ≡ rest)
drawn bytes at value rest h e =
    let some = number_count value in
    let n = simp (length-drop, length-append) at (ap length e) in
    let l : length (take at bytes) ≡ at = simp length-take (omega arith) in
    let whole : bytes ≡ take at bytes ++ (bytes_of value ++ rest) = sym (take-append-drop at bytes) ∙ ap (λ (t : List ℕ). take at bytes ++ t) e in
    let a = number_back value (take at bytes) rest h in
    let b = drop-append-add (take at bytes) (bytes_of value ++ rest) (length (bytes_of value)) ∙ drop-append_seam (bytes_of value) rest in
    (rw (← whole, l) at a, rw (← whole, l) at b)

-- the same of a number that may not be 0
positive : (bytes : List ℕ) (at value : ℕ) (rest : List ℕ) → LegalNumber value → drop at bytes ≡ bytes_of value ++ rest
    → (positive_at bytes at ≡ found value (at + length (bytes_of value))) × (drop (at + length (bytes_of value)) bytes ≡ rest)
unfolding positive_at
positive bytes at value rest h e = let d = drawn bytes at value rest h.1 e in (rw (d.0, ne_eqb value 0 (λ z. omega (arith, h.0))), d.1)

-- an entry's bytes at a position
entry_back : (bytes : List ℕ) (at : ℕ) (e : Entry) (k : ℕ) (rest : List ℕ) → LegalNumber e.id → LegalNumber e.quota → k ≤ greatest
    → drop at bytes ≡ bytes_of e.id ++ (bytes_of e.quota ++ (bytes_of k ++ rest))
    → (next : ℕ) × (entry_at bytes at ≡ answer (record { id = e.id; quota = e.quota; children = k; next = next })) × (drop next bytes ≡ rest)
unfolding entry_at
entry_back bytes at e k rest i q h s =
    let a = positive bytes at e.id (bytes_of e.quota ++ (bytes_of k ++ rest)) i s in
    let b = positive bytes (at + length (bytes_of e.id)) e.quota (bytes_of k ++ rest) q a.1 in
    let c = drawn bytes (at + length (bytes_of e.id) + length (bytes_of e.quota)) k rest h b.1 in
    (at + length (bytes_of e.id) + length (bytes_of e.quota) + length (bytes_of k), rw (a.0, b.0, c.0), c.1)

-- ## Trees

depth_parts : (c r room : ℕ) → pick (leb r c) (suc c) r ≤ room → (suc c ≤ room) × (r ≤ room)
depth_parts c r room h = go (leb r c) refl h
  where
    go : (b : Bool) → leb r c ≡ b → pick b (suc c) r ≤ room → (suc c ≤ room) × (r ≤ room)
    go true e h = omega (arith, leb-true r c e)
    go false e h = omega (arith, leb-false r c e)

pub count_size : (t : Forest) → tree_count t ≤ size t
count_size none = omega arith
count_size (tree e c r) = omega (arith, count_size r)

pub count_some : (t : Forest) → 1 ≤ size t → 1 ≤ tree_count t
count_some none h = h
count_some (tree e c r) h = omega arith

-- a tree's entry, the trees below it and the trees to its right, each at its position
trees_step : (bytes : List ℕ) (room n at used : ℕ) (e : Entry) (c r : Forest) (i j k : ℕ) {m : ℕ} → used < most_entries
    → entry_at bytes at ≡ answer (record { id = e.id; quota = e.quota; children = tree_count c; next = i })
    → trees_at room (tree_count c) bytes i (used + 1) ≡ answer (record { trees = c; next = j; used = used + 1 + size c })
    → trees_at (suc room) n bytes j (used + 1 + size c) ≡ answer (record { trees = r; next = k; used = m })
    → trees_at (suc room) (suc n) bytes at used ≡ answer (record { trees = tree e c r; next = k; used = m })
unfolding trees_at trees_by tree_by not_full
trees_step bytes room n at used e c r i j k l x y z = rw (lt-ltb used most_entries l, x, y, z)

-- trees' bytes at a position
trees_back : (t : Forest) (room : ℕ) (bytes : List ℕ) (at used : ℕ) (rest : List ℕ) → LegalTrees t → depth t ≤ room → used + size t ≤ most_entries
    → drop at bytes ≡ trees_bytes t ++ rest
    → (next : ℕ) × (trees_at room (tree_count t) bytes at used ≡ answer (record { trees = t; next = next; used = used + size t })) × (drop next bytes ≡ rest)
unfolding trees_bytes trees_at trees_by
trees_back none room bytes at used rest f d u s = (at, ap (λ n. answer (record { trees = none; next = at; used = n })) (omega arith), s)
trees_back (tree e c r) zero bytes at used rest f d u s = absurd (omega (arith, depth_parts (depth c) (depth r) 0 d))
trees_back (tree e c r) (suc room) bytes at used rest f d u s =
    let p = depth_parts (depth c) (depth r) (suc room) d in
    let k = count_size c in
    let l : tree_count c ≤ greatest = omega arith in
    let dc : depth c ≤ room = omega arith in
    let uc : used + 1 + size c ≤ most_entries = omega arith in
    let ur : used + 1 + size c + size r ≤ most_entries = omega arith in
    let m : used < most_entries = omega arith in
    let n : used + 1 + size c + size r ≡ used + suc (size c + size r) = omega arith in
    let x = entry_back bytes at e (tree_count c) (trees_bytes c ++ (trees_bytes r ++ rest)) f.0 f.1 l (simp append_assoc at s) in
    let y = trees_back c room bytes x.0 (used + 1) (trees_bytes r ++ rest) f.2 dc uc x.2 in
    let z = trees_back r (suc room) bytes y.0 (used + 1 + size c) rest f.3 p.1 ur y.2 in
    (z.0, rw (← n) (trees_step bytes room (tree_count r) at used e c r x.0 y.0 z.0 m x.1 y.1 z.1), z.2)

-- ## A request

direction_back : (d : Direction) → direction_of (direction_number d) ≡ d
unfolding direction_of
direction_back upright = refl
direction_back inverted = refl

pub direction_small : (d : Direction) → direction_number d ≤ 1
direction_small upright = omega arith
direction_small inverted = omega arith

-- a request's bytes: each part at its position
request_at : (q : Request) (bytes : List ℕ) → Legal q → bytes ≡ request_bytes q → request_of bytes ≡ answer q
unfolding request_of request_bytes
request_at q bytes l e =
    let d = direction_number q.direction in
    let n = tree_count q.trees in
    let rest = trees_bytes q.trees in
    let m : size q.trees ≤ most_entries = omega (arith, size_length q.trees, l.entries_most) in
    let k = count_size q.trees in
    let s = direction_small q.direction in
    let some = count_some q.trees (omega (arith, size_length q.trees, l.entries_some)) in
    let a = positive bytes 0 q.exploded (bytes_of d ++ (bytes_of n ++ rest)) l.exploded e in
    let b = drawn bytes (0 + length (bytes_of q.exploded)) d (bytes_of n ++ rest) (omega arith) a.1 in
    let c = positive bytes (0 + length (bytes_of q.exploded) + length (bytes_of d)) n rest (some, omega arith) b.1 in
    let p = 0 + length (bytes_of q.exploded) + length (bytes_of d) + length (bytes_of n) in
    let t = trees_back q.trees greatest_depth bytes p 0 [] l.trees l.deep (omega arith) (c.1 ∙ sym (append-nil rest)) in
    let z = simp length-drop at (ap length t.2) in
    rw (a.0, b.0, le-ltb 1 d s, c.0, t.1, le-ltb t.0 (length bytes) (omega arith), direction_back q.direction)

-- the bytes of every legal request read back as it
pub request_back : (q : Request) → Legal q → request_of (request_bytes q) ≡ answer q
request_back q l = request_at q (request_bytes q) l refl
