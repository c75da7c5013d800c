-- Choosing one entry's child count after another: what the row has so far, and what is written of the requests that begin with it.
use mathlib.Core.Path.{◌≡◌, refl, sym, ◌∙◌, ap}
use mathlib.Core.List.{List, [], ◌∷◌, ◌++◌, map, flat_map, append_assoc, append-nil}
use Prim.Native.Nat.{ℕ, zero, suc, ◌+◌, ◌*◌, ◌-◌, ◌≤◌, ◌<◌}
use native.Mathlib.Omega.{arith}
use lib.ListN.{length, take, set, length-set}
use lib.Seq.{take-suc-set, take-set-le, take-take}
use Rattle.rules.specs.Buffers.{after}
use Rattle.rules.proofs.Pieces.{Wrote, wrote_none, piece_room, wrote_more, wrote_all}
use Rattle.writer.specs.Writing as writing
use Rattle.writer.specs.declared.Writer.{Writer}
use Rattle.writer.proofs.Writing as writers
use Rattle.small.specs.Shapes.{up_from, shapes}
use Rattle.small.specs.Small.{greatest_size}
use Rattle.small.proofs.Lists.{in_up}
use Rattle.small.proofs.Shapes.{in_shapes, closes_length}
use Rattle.small_requests.specs.Inside.Rows.{row_length, entries_bytes, shapes_bytes}
use Rattle.small_requests.proofs.Lists.{flat_flat, flat_map_lem, flat_same, flat_none, up_more, up_part}

-- ## The requests by their first entry

-- more trees than entries
shapes_none : (chosen : List ℕ) (i left due : ℕ) → left < due → shapes_bytes chosen i left due ≡ []
unfolding shapes_bytes
shapes_none chosen i left due h =
    flat_none _ (shapes left due) (λ s m. let r = in_shapes left due s m in absurd (omega (arith, closes_length due s r.1)))

shapes_end : (chosen : List ℕ) (i : ℕ) → shapes_bytes chosen i 0 0 ≡ chosen
unfolding shapes_bytes shapes entries_bytes flat_map
shapes_end chosen i = append-nil (chosen ++ []) ∙ append-nil chosen

shapes_idle : (chosen : List ℕ) (i left : ℕ) → shapes_bytes chosen i (suc left) 0 ≡ []
unfolding shapes_bytes shapes flat_map
shapes_idle chosen i left = refl

shapes_more : (chosen : List ℕ) (i left due : ℕ)
    → shapes_bytes chosen i (suc left) (suc due) ≡ flat_map (λ k. shapes_bytes (chosen ++ (i ∷ 1 ∷ k ∷ [])) (suc i) left (due + k)) (up_from 0 (suc left))
unfolding shapes_bytes shapes entries_bytes
shapes_more chosen i left due =
    flat_flat (λ s. chosen ++ entries_bytes i s) (λ k. map (λ s. k ∷ s) (shapes left (due + k))) (up_from 0 (suc left))
    ∙ flat_same _ _ (up_from 0 (suc left))
    (λ k _.
    flat_map_lem (λ s. chosen ++ entries_bytes i s) (λ s. k ∷ s) (shapes left (due + k))
    ∙ flat_same _ _ (shapes left (due + k)) (λ s _. sym (append_assoc chosen (i ∷ 1 ∷ k ∷ []) (entries_bytes (suc i) s))))

-- ## The row

-- the row with an id and quota 1 after its first `done` bytes
abbrev pub begun : List ℕ → ℕ → ℕ → List ℕ
begun row done id = set (set row done id) (done + 1) 1

begun_lead : (row : List ℕ) (done id : ℕ) → done + 1 < length row → take (done + 2) (begun row done id) ≡ take done row ++ (id ∷ 1 ∷ [])
begun_lead row done id h =
    let a : done + 2 ≡ suc (done + 1) = omega arith in
    let b : done + 1 ≡ suc done = omega arith in
    let n = length-set row done id in
    rw (a, take-suc-set (set row done id) (done + 1) 1 (omega arith), b, take-suc-set row done id (omega arith)) (append_assoc (take done row) (id ∷ []) (1 ∷ []))

begun_same : (row : List ℕ) (done id : ℕ) → take done (begun row done id) ≡ take done row
begun_same row done id = take-set-le done (set row done id) (done + 1) 1 (omega arith) ∙ take-set-le done row done id (omega arith)

-- the requests where the next entry has j children
pub choice : List ℕ → (done id due left j : ℕ) → List ℕ
choice row done id due left j = shapes_bytes (take (done + 2) row ++ (j ∷ [])) (id + 1) (left - 1) (due - 1 + j)

-- the requests for the first k child counts
abbrev choices : List ℕ → (done id due left k : ℕ) → List ℕ
choices row done id due left k = flat_map (choice row done id due left) (up_from 0 k)

choices_more : (row : List ℕ) (done id due left k : ℕ) → choices row done id due left (k + 1) ≡ choices row done id due left k ++ choice row done id due left (0 + k)
choices_more row done id due left k = up_more (choice row done id due left) 0 k

-- more children than entries are left: nothing
choice_none : (row : List ℕ) (done id due left j : ℕ) → 1 ≤ due → 1 ≤ left → left < j + due → choice row done id due left j ≡ []
unfolding choice
choice_none row done id due left j d l h = shapes_none _ (id + 1) (left - 1) (due - 1 + j) (omega arith)

pub shapes_each : (row : List ℕ) (done id due left : ℕ) → done + 1 < length row → 1 ≤ due → due ≤ left
    → shapes_bytes (take done row) id left due ≡ choices (begun row done id) done id due left (left - due + 1)
unfolding choice
shapes_each row done id due zero h d l = absurd (omega arith)
shapes_each row done id zero (suc left) h d l = absurd (omega arith)
shapes_each row done id (suc due) (suc left) h d l =
    let a : suc left - 1 ≡ left = omega arith in
    let b : suc due - 1 ≡ due = omega arith in
    let e : id + 1 ≡ suc id = omega arith in
    let n : suc left - suc due + 1 ≤ suc left = omega arith in
    shapes_more (take done row) id left due
    ∙ flat_same (λ k. shapes_bytes (take done row ++ (id ∷ 1 ∷ k ∷ [])) (suc id) left (due + k)) (choice (begun row done id) done id (suc due) (suc left)) (up_from 0 (suc left))
    (λ k _. rw (a, b, e, begun_lead row done id h, append_assoc (take done row) (id ∷ 1 ∷ []) (k ∷ [])))
    ∙ up_part (choice (begun row done id) done id (suc due) (suc left)) 0 (suc left - suc due + 1) (suc left) n
    (λ j m.
    let u = in_up j (0 + (suc left - suc due + 1)) (suc left - (suc left - suc due + 1)) m in
    choice_none (begun row done id) done id (suc due) (suc left) j d (omega arith) (omega arith))

-- ## The loop

-- what a call below asks of the numbers
pub below_fits : (done id due left k t : ℕ) → left ≡ t → done + 3 * left ≤ row_length → id + left ≤ 1 + greatest_size → 1 ≤ due → k + due ≤ left
    → (left - 1 < t) × (done + 3 + 3 * (left - 1) ≤ row_length) × (id + 1 + (left - 1) ≤ 1 + greatest_size) × (due - 1 + k ≤ left - 1) × (done + 3 ≤ row_length)
below_fits done id due left k t e a b d h = (omega arith, omega arith, omega arith, omega arith, omega arith)

-- the requests for the child counts below k are written, and the row begins as it did
pub record Choosing (buffer₀ : List ℕ) (at done id due left : ℕ) (row₀ buffer row : List ℕ) (p k : ℕ) : Type 0 where
  pub wrote : Wrote (choices row₀ done id due left) (left - due + 1) buffer₀ at buffer p k
  pub same : take (done + 2) row ≡ take (done + 2) row₀
  pub long : length row ≡ row_length

module _ {buffer₀ : List ℕ} {at done id due left : ℕ} {row₀ buffer row : List ℕ} {p k : ℕ} (c : Choosing buffer₀ at done id due left row₀ buffer row p k) (h : k + due ≤ left) (n : done + 3 ≤ row_length) where
  -- what the child count k leads to
  abbrev chosen : List ℕ
  chosen = shapes_bytes (take (done + 3) (set row (done + 2) k)) (id + 1) (left - 1) (due - 1 + k)

  chosen_is : chosen ≡ choice row₀ done id due left (0 + k)
  unfolding choice
  chosen_is =
      let a : done + 3 ≡ suc (done + 2) = omega arith in
      let l = c.long in
      let z : 0 + k ≡ k = omega arith in
      rw (a, take-suc-set row (done + 2) k (omega arith), c.same, z)

  pub choose_room : p + length chosen ≤ length buffer
  choose_room = rw chosen_is (piece_room (choices row₀ done id due left) (λ i. choice row₀ done id due left (0 + i)) (choices_more row₀ done id due left) c.wrote (omega arith))

  pub choose_again : {buffer' row' : List ℕ} {q : ℕ} → q ≡ p + length chosen → buffer' ≡ after buffer p chosen
      → take (done + 3) row' ≡ take (done + 3) (set row (done + 2) k) → length row' ≡ length (set row (done + 2) k)
      → Choosing buffer₀ at done id due left row₀ buffer' row' q (k + 1)
  choose_again {buffer'} {row'} {q} e f g l = record {
    wrote =
        wrote_more (choices row₀ done id due left) (λ i. choice row₀ done id due left (0 + i)) (choices_more row₀ done id due left) c.wrote (omega arith)
        (rw chosen_is at e)
        (rw chosen_is at f);
    same =
        sym (take-take (done + 2) (done + 3) row' (omega arith))
        ∙ ap (take (done + 2)) g
        ∙ take-take (done + 2) (done + 3) (set row (done + 2) k) (omega arith)
        ∙ take-set-le (done + 2) row (done + 2) k (omega arith)
        ∙ c.same;
    long = l ∙ length-set row (done + 2) k ∙ c.long;
  }

pub choose_begins : (row buffer : List ℕ) (at done id due left : ℕ) → done + 3 ≤ row_length → length row ≡ row_length → 1 ≤ due → due ≤ left
    → at + length (shapes_bytes (take done row) id left due) ≤ length buffer
    → Choosing buffer at done id due left (begun row done id) buffer (begun row done id) at 0
unfolding flat_map
choose_begins row buffer at done id due left h n d l r = record {
  wrote =
      wrote_none (choices (begun row done id) done id due left) (λ i. choice (begun row done id) done id due left (0 + i)) (choices_more (begun row done id) done id due left) refl
      (rw (shapes_each row done id due left (omega arith) d l) at r);
  same = refl;
  long = length-set (set row done id) (done + 1) 1 ∙ length-set row done id ∙ n;
}

-- all of them: the requests that begin with the first `done` bytes of the row, which the row still has
pub choose_ends : (row : List ℕ) {buffer₀ : List ℕ} {at done id due left : ℕ} {buffer last : List ℕ} {p k : ℕ}
    → Choosing buffer₀ at done id due left (begun row done id) buffer last p k → left < k + due → done + 1 < length row → 1 ≤ due → due ≤ left
    → (p ≡ at + length (shapes_bytes (take done row) id left due)) × (buffer ≡ after buffer₀ at (shapes_bytes (take done row) id left due)) × (take done last ≡ take done row)
choose_ends row {buffer₀} {at} {done} {id} {due} {left} {buffer} {last} c h n d l =
    let w = wrote_all (choices (begun row done id) done id due left) (λ i. choice (begun row done id) done id due left (0 + i)) (choices_more (begun row done id) done id due left) c.wrote (omega arith) in
    let e = shapes_each row done id due left n d l in (
      rw e w.0,
      rw e w.1,
      sym (take-take done (done + 2) last (omega arith)) ∙ ap (take done) c.same ∙ take-take done (done + 2) (begun row done id) (omega arith) ∙ begun_same row done id,
    )

-- ## Where nothing is left to choose

-- the row is whole
pub shapes_whole : (chosen : List ℕ) (i left due : ℕ) → left ≡ 0 → due ≤ left → shapes_bytes chosen i left due ≡ chosen
shapes_whole chosen i left due e h = let d : due ≡ 0 = omega arith in rw (e, d) (shapes_end chosen i)

-- entries are left, but no tree
pub shapes_over : (chosen : List ℕ) (i left due : ℕ) (w : Writer) → 1 ≤ left → due ≡ 0 → w.at + length (shapes_bytes chosen i left due) ≤ length w.buffer.now
    → writing.WroteAll w w (shapes_bytes chosen i left due)
shapes_over chosen i zero due w h e r = absurd (omega arith)
shapes_over chosen i (suc left) due w h e r =
    let n : shapes_bytes chosen i (suc left) due ≡ [] = rw e (shapes_idle chosen i left) in
    let m = rw n at r in
    rw n (writers.wrote_none w (omega arith))

-- it is written as it stands
pub whole_written : (row : List ℕ) (done i left due : ℕ) {old new : Writer} → left ≡ 0 → due ≤ left → done ≤ row_length → length row ≡ row_length
    → old.at + length (shapes_bytes (take done row) i left due) ≤ length old.buffer.now → writing.Wrote old new (take done row)
    → writing.WroteAll old new (shapes_bytes (take done row) i left due)
whole_written row done i left due {old} {new} e h d l r w =
    let s = shapes_whole (take done row) i left due e h in
    rw s (writers.wrote_all w (rw s at r))
