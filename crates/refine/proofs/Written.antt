-- The four columns after an accepted request.
use mathlib.Core.Path.{◌≡◌, refl, sym, ◌∙◌}
use mathlib.Core.List.{List, [], ◌∷◌, map}
use Prim.Native.Nat.{ℕ, zero, suc, ◌+◌, ◌-◌, ◌≤◌, ◌<◌}
use native.Mathlib.Omega.{arith}
use lib.ListN.{length, get_or, take, length-append, length-map}
use borrow.Author.Tests.{le-leb}
use Rattle.rules.specs.Answers.{answer}
use Rattle.rules.specs.Limits.{greatest}
use Rattle.request.specs.Entries.{Entry, quota, quota_at, one_at, sum, times, total, entry_of, before, without}
use Rattle.request.specs.Numbering.{whole}
use Rattle.request.specs.Request.{Request, entries, left_of, right_of}
use Rattle.request.specs.Reading.{request_of}
use Rattle.request.specs.Acceptance.{accepted}
use Rattle.request.proofs.Accepting.{Accepted, request_accepted}
use Rattle.request.proofs.Numbering.{whole_total, lefts_are, rights_are}
use Rattle.request.proofs.ReadLaws.{ReadRequest, request_read}
use Rattle.request.proofs.Sums.{before_within, positive_quota}
use Rattle.request.proofs.Trees.{same_left, same_right}
use Rattle.table.specs.declared.Row.{Row}
use Rattle.table.specs.Columns.{Columns, row_at, rows, put, overlay}
use Rattle.table.specs.Check.{checked}
use Rattle.table.specs.Sound.{SoundRow}
use Rattle.table.proofs.Rows.{rows_length}
use Rattle.table.specs.Places.{place_of}
use Rattle.table.proofs.Places.{place_in}
use Rattle.table.proofs.Soundness.{check_sound}
use Rattle.numbering.specs.Numbered.{left_numbers, right_numbers}
use Rattle.judging.proofs.Accepting.{times_ids}
use Rattle.refine.specs.Refine.{groups_of, row_in, row_for, kept_row, kept_rows, new_rows, refine_rows}
use Rattle.refine.specs.Inside.Placing.{placed, placed_all, HasRows, Bounded}
use Rattle.refine.proofs.Lookup.{groups_length}
use Rattle.refine.proofs.Placement.{value_at, value_by_id, without_length, column_after}
use Rattle.refine.proofs.Accepting.{passed, place_row, quota_place}

-- a bound on what each entry has
bounded_map : (f : Entry → ℕ) (b : ℕ) (s : List Entry) → ((e : Entry) → 1 ≤ times e.id s → f e ≤ b) → (k : ℕ) → k < length (map f s) → get_or (map f s) k 0 ≤ b
bounded_map f b [] h k m = absurd (omega arith)
bounded_map f b (e ∷ s) h zero m = h e (Rattle.request.proofs.Sums.count_head e.id s)
bounded_map f b (e ∷ s) h (suc k) m = bounded_map f b s (λ x i. h x (omega arith)) k (omega arith)

-- one row goes, and those of the entries come
pub refined_length : (a : Request) (t : List Row) → times a.exploded (entries a) ≡ 1 → length (refine_rows a t) + 1 ≡ length t + length (entries a)
unfolding refine_rows
refined_length a t once =
    omega (
      arith,
      length-append (kept_rows a t) (new_rows a t),
      length-map t (λ (w : Row). kept_row a w),
      length-map (without a.exploded (entries a))
          (row_for a (row_in a.exploded t)),
      without_length a.exploded (entries a) once,
    )

-- an accepted request and the columns
module _ (c : Columns) (n : ℕ) (good : checked c n ≡ answer (rows c n)) (bytes : List ℕ) {a : Request} (is : request_of bytes ≡ answer a)
    (ok : accepted (length c.id) (groups_of (rows c n)) a ≡ answer a) where
  taken : Accepted (length c.id) (groups_of (rows c n)) a
  taken = (request_accepted (length c.id) (groups_of (rows c n)) a ok).0

  read : ReadRequest a
  read = request_read bytes is

  abbrev own : ℕ
  own = place_of c.id n a.exploded

  abbrev ids : List ℕ
  ids = map (λ (e : Entry). e.id) (entries a)

  room : n + length (entries a) ≤ length c.id + 1
  room = omega (arith, taken.fits, groups_length (rows c n), rows_length c 0 n)

  pub rows_counted_lem : length (refine_rows a (rows c n)) ≡ n + length (entries a) - 1
  rows_counted_lem = omega (arith, refined_length a (rows c n) taken.once, rows_length c 0 n)

  module _ (inside : own < n) where
    row_is : row_in a.exploded (rows c n) ≡ row_at c own
    row_is = place_row c n good a.exploded inside

    -- the entries fill the exploded group's box
    fills : total (entries a) ≡ get_or c.q own 0
    fills = taken.whole ∙ quota_place c n good a.exploded inside

    sound : SoundRow (row_at c own)
    sound = (check_sound c n good).row own inside

    small : whole a.trees ≤ greatest
    small = omega (arith, whole_total a.trees, fills, sound.l_end, sound.l_some)

    -- what the walk gave out
    pub left_numbers_lem : left_numbers (request_of bytes) ≡ map (λ e. 0 + before e.id (left_of a)) (entries a)
    left_numbers_lem = rw (is, le-leb (whole a.trees) greatest small) (lefts_are a.direction 0 a.trees read.positive taken.single)

    pub right_numbers_lem : right_numbers (request_of bytes) ≡ map (λ e. 0 + before e.id (right_of a)) (entries a)
    right_numbers_lem = rw (is, le-leb (whole a.trees) greatest small) (rights_are a.direction 0 a.trees read.positive taken.single)

    -- an entry's numbers lie in the box
    pub left_bounded : Bounded (get_or c.l own 0) (map (λ e. 0 + before e.id (left_of a)) (entries a))
    left_bounded k m =
        let same = same_left a.direction a.trees in
        let b = bounded_map (λ e. 0 + before e.id (left_of a)) (greatest - get_or c.l own 0) (entries a)
        (λ e i. omega (
          arith,
          before_within e.id (left_of a) (omega (arith, same (one_at e.id))),
          same (quota_at e.id),
          same quota,
          positive_quota e.id (entries a)
              read.positive,
          fills,
          sound.l_end,
        )) k m in
        omega (arith, b, sound.l_end, sound.q_some)

    pub right_bounded : Bounded (get_or c.r own 0) (map (λ e. 0 + before e.id (right_of a)) (entries a))
    right_bounded k m =
        let same = same_right a.direction a.trees in
        let b = bounded_map (λ e. 0 + before e.id (right_of a)) (greatest - get_or c.r own 0) (entries a)
        (λ e i. omega (
          arith,
          before_within e.id (right_of a) (omega (arith, same (one_at e.id))),
          same (quota_at e.id),
          same quota,
          positive_quota e.id (entries a)
              read.positive,
          fills,
          sound.r_end,
        )) k m in
        omega (arith, b, sound.r_end, sound.q_some)

    pub has_rows : HasRows a.exploded own n ids c.id
    has_rows = (inside, omega (arith, room, length-map (entries a) (λ (e : Entry). e.id), sym (times_ids a.exploded (entries a)), taken.once))

    column : (of : Row → ℕ) (col : List ℕ) → length col ≡ length c.id → ((k : ℕ) → of (row_at c k) ≡ get_or col k 0) → (base : ℕ) (f : Entry → ℕ)
        → ((e : Entry) → of (row_for a (row_in a.exploded (rows c n)) e) ≡ base + f e)
        → of (row_for a (row_at c own) (entry_of a.exploded (entries a))) ≡ base + sum (value_at a.exploded f) (entries a)
        → placed a.exploded own n base ids (map f (entries a)) col ≡ overlay (map of (refine_rows a (rows c n))) col
    column of col e reads base f others own_row =
        column_after c n own a ((place_in c.id n a.exploded (passed c n good).most).there inside) inside (passed c n good).good.ids taken.once of col
        (omega (arith, room, e)) reads base f others own_row

    -- the columns that the code leaves
    pub columns_after_lem : (m : ℕ) (w s l r : List ℕ) → take m w ≡ ids → take m s ≡ map quota (entries a) → take m l ≡ map (λ e. 0 + before e.id (left_of a)) (entries a)
        → take m r ≡ map (λ e. 0 + before e.id (right_of a)) (entries a) → placed_all (record { exploded = a.exploded; own = own; old = row_at c own; next = n; entries = m }) w s l r c ≡ put (refine_rows a (rows c n)) c
    unfolding put
    columns_after_lem m w s l r ew es el er =
        let lens = (passed c n good).lengths in
        let u = a.exploded in
        let by_l = value_by_id (λ x. 0 + before x (left_of a)) u (entries a) taken.once in
        let by_r = value_by_id (λ x. 0 + before x (right_of a)) u (entries a) taken.once in
        let ci = column (λ w. w.id) c.id refl (λ k. refl) 0 (λ e. e.id) (λ e. omega arith) (omega (arith, value_by_id (λ x. x) u (entries a) taken.once)) in
        let cl = column (λ w. w.l) c.l lens.in_l (λ k. refl) (get_or c.l own 0) (λ e. 0 + before e.id (left_of a)) (λ e. rw row_is (omega arith)) (omega (arith, by_l)) in
        let cr = column (λ w. w.r) c.r lens.in_r (λ k. refl) (get_or c.r own 0) (λ e. 0 + before e.id (right_of a)) (λ e. rw row_is (omega arith)) (omega (arith, by_r)) in
        let cq = column (λ w. w.q) c.q lens.in_q (λ k. refl) 0 quota (λ e. omega arith) (omega arith) in
        rw (ew, es, el, er, ci, cl, cr, cq)
