-- The tree counts of one direction, one after another; and the two directions.
use mathlib.Core.Path.{◌≡◌, refl, sym, ◌∙◌, ap}
use mathlib.Core.List.{List, [], ◌∷◌, ◌++◌, flat_map}
use Prim.Native.Nat.{ℕ, ◌+◌, ◌*◌, ◌≤◌, ◌<◌}
use native.Mathlib.Omega.{arith}
use lib.ListN.{length, take, set, length-append, length-set}
use lib.Seq.{take-suc-set, take-set-le, take-take}
use Rattle.rules.specs.Answers.{answer}
use Rattle.rules.specs.Buffers.{written, after}
use Rattle.rules.proofs.Buffers.{written_all, after_none, after_same, after_then}
use Rattle.rules.proofs.Pieces.{Wrote, wrote_none, piece_room, wrote_more, wrote_all}
use Rattle.small.specs.Shapes.{up_from}
use Rattle.small.specs.Small.{greatest_size, list_bytes}
use Rattle.small_requests.specs.Inside.Rows.{row_length, lead, shapes_bytes, direction_bytes}
use Rattle.small_requests.proofs.Lists.{up_more}
use Rattle.small_requests.proofs.Rows.{no_bytes, list_halves}

-- the requests of one direction with so many trees
pub of_trees : (direction size trees : ℕ) → List ℕ
of_trees direction size trees = shapes_bytes (lead direction size trees) 1 size trees

-- the requests for the first k tree counts
abbrev first_ones : (direction size k : ℕ) → List ℕ
first_ones direction size k = flat_map (of_trees direction size) (up_from 1 k)

next : (direction size k : ℕ) → first_ones direction size (k + 1) ≡ first_ones direction size k ++ of_trees direction size (1 + k)
next direction size k = up_more (of_trees direction size) 1 k

pub record Directing (buffer₀ : List ℕ) (at direction size : ℕ) (buffer row : List ℕ) (p k : ℕ) : Type 0 where
  pub wrote : Wrote (first_ones direction size) size buffer₀ at buffer p k
  pub front : take 3 row ≡ (3 + 3 * size) ∷ 1 ∷ direction ∷ []
  pub long : length row ≡ row_length

module _ {buffer₀ : List ℕ} {at direction size : ℕ} {buffer row : List ℕ} {p k : ℕ} (c : Directing buffer₀ at direction size buffer row p k)
    {trees : ℕ} (h : k < size) (this : trees ≡ k + 1) where
  -- what the tree count leads to
  abbrev led : List ℕ
  led = shapes_bytes (take 4 (set row 3 trees)) 1 size trees

  led_is : led ≡ of_trees direction size (1 + k)
  unfolding of_trees
  led_is =
      let l = c.long in
      let z : 1 + k ≡ trees = omega arith in
      let e : take 4 (set row 3 trees) ≡ lead direction size trees = take-suc-set row 3 trees (omega arith) ∙ ap (λ (t : List ℕ). t ++ (trees ∷ [])) c.front in
      rw (z, e)

  pub direct_room : p + length led ≤ length buffer
  direct_room = rw led_is (piece_room (first_ones direction size) (λ i. of_trees direction size (1 + i)) (next direction size) c.wrote h)

  pub direct_again : {again : ℕ} → again ≡ k + 1 → {buffer' row' : List ℕ} {q : ℕ} → q ≡ p + length led → buffer' ≡ after buffer p led
      → take 4 row' ≡ take 4 (set row 3 trees) → length row' ≡ length (set row 3 trees) → Directing buffer₀ at direction size buffer' row' q again
  direct_again {again} same {buffer'} {row'} {q} e f g l = rw same (record {
    wrote = wrote_more (first_ones direction size) (λ i. of_trees direction size (1 + i)) (next direction size) c.wrote h (rw led_is at e) (rw led_is at f);
    front =
        sym (take-take 3 4 row' (omega arith))
        ∙ ap (take 3) g
        ∙ take-take 3 4 (set row 3 trees) (omega arith)
        ∙ take-set-le 3 row 3 trees (omega arith)
        ∙ c.front;
    long = l ∙ length-set row 3 trees ∙ c.long;
  })

-- the row's first three bytes
pub fronted : (row : List ℕ) (a b d : ℕ) → length row ≡ row_length → take 3 (set (set (set row 0 a) 1 b) 2 d) ≡ a ∷ b ∷ d ∷ []
fronted row a b d l =
    let m = length-set row 0 a in
    let n = length-set (set row 0 a) 1 b in
    rw (take-suc-set (set (set row 0 a) 1 b) 2 d (omega arith), take-suc-set (set row 0 a) 1 b (omega arith), take-suc-set row 0 a (omega arith))

pub front_long : (row : List ℕ) (a b d : ℕ) → length (set (set (set row 0 a) 1 b) 2 d) ≡ length row
front_long row a b d = length-set (set (set row 0 a) 1 b) 2 d ∙ length-set (set row 0 a) 1 b ∙ length-set row 0 a

pub direct_begins : (buffer row : List ℕ) (at direction size : ℕ) → at + length (direction_bytes direction size) ≤ length buffer
    → take 3 row ≡ (3 + 3 * size) ∷ 1 ∷ direction ∷ [] → length row ≡ row_length → Directing buffer at direction size buffer row at 0
unfolding direction_bytes of_trees flat_map
direct_begins buffer row at direction size h f l =
    record { wrote = wrote_none (first_ones direction size) (λ i. of_trees direction size (1 + i)) (next direction size) refl h; front = f; long = l }

pub direct_ends : {buffer₀ : List ℕ} {at direction size : ℕ} {buffer row : List ℕ} {p k : ℕ} → Directing buffer₀ at direction size buffer row p k → size ≤ k
    → (p ≡ at + length (direction_bytes direction size)) × (buffer ≡ after buffer₀ at (direction_bytes direction size))
unfolding direction_bytes of_trees
direct_ends {direction = direction} {size} c h = wrote_all (first_ones direction size) (λ i. of_trees direction size (1 + i)) (next direction size) c.wrote h

-- ## The list

pub none_written : (buffer : List ℕ) (n : ℕ) → greatest_size < n → (answer 0 ≡ written buffer 0 (list_bytes n)) × (buffer ≡ after buffer 0 (list_bytes n))
none_written buffer n h = rw (no_bytes n h) (sym (written_all buffer 0 [] (omega arith)), sym (after_none buffer 0 (omega arith)))

module _ (buffer : List ℕ) (n : ℕ) (h : n ≤ greatest_size) (fits : length (list_bytes n) ≤ length buffer) where
  halves_fit : length (direction_bytes 0 n) + length (direction_bytes 1 n) ≤ length buffer
  halves_fit = omega (arith, ap length (list_halves n h), length-append (direction_bytes 0 n) (direction_bytes 1 n))

  pub first_fits : 0 + length (direction_bytes 0 n) ≤ length buffer
  first_fits = omega (arith, halves_fit)

  pub second_fits : {first : List ℕ} {p : ℕ} → p ≡ 0 + length (direction_bytes 0 n) → first ≡ after buffer 0 (direction_bytes 0 n) → p + length (direction_bytes 1 n) ≤ length first
  second_fits e f = omega (arith, halves_fit, ap length f, after_same buffer 0 (direction_bytes 0 n) first_fits)

  pub all_written : {count p : ℕ} {first second : List ℕ} → count ≡ length (list_bytes n) → p ≡ 0 + length (direction_bytes 0 n) → first ≡ after buffer 0 (direction_bytes 0 n)
      → second ≡ after first p (direction_bytes 1 n) → (answer count ≡ written buffer 0 (list_bytes n)) × (second ≡ after buffer 0 (list_bytes n))
  all_written c e f g = (
    ap answer c ∙ sym (written_all buffer 0 (list_bytes n) (omega arith)),
    rw (list_halves n h) (after_then buffer 0 (direction_bytes 0 n) (direction_bytes 1 n) (omega (arith, halves_fit)) f e g),
  )
