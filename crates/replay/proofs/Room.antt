-- `grow_room` is enough: the text of a log has at most 14 bytes for each byte of the log, and 16384 for the table.
use Rattle.std.specs.Prelude.{Option, Some, None}
use mathlib.Core.Path.{◌≡◌, refl, ap, sym, ◌∙◌}
use mathlib.Core.Bool.{false}
use mathlib.Core.List.{List}
use Prim.Native.Nat.{ℕ, zero, suc, ◌+◌, ◌*◌, ◌-◌, ◌≤◌}
use native.Mathlib.Omega.{arith}
use lib.ListN.{length, take, length-append}
use borrow.Author.Tests.{le-leb}
use Rattle.rules.specs.Answers.{answer, refused}
use Rattle.rules.specs.Buffers.{after}
use Rattle.rules.proofs.Answers.{by_answer}
use Rattle.rules.proofs.Buffers.{after_same, after_start}
use Rattle.rules.proofs.Cases.{by_lt}
use Rattle.table.specs.Columns.{Columns, counted, afterwards}
use Rattle.fresh.specs.Fresh.{fresh_rows}
use Rattle.table.proofs.Rows.{rows_length}
use Rattle.request_log.specs.Log.{pair_of, part_at, bytes_in, no_more, requests_from, requests_at}
use Rattle.request_log.proofs.Laws.{part_in, stop, no_more_lem, one_more_lem}
use Rattle.lines.specs.Lines.{line_text, columns_bad}
use Rattle.lines.proofs.Laws.{line_most, table_most}
use Rattle.table.specs.Columns.{Table, rows_in}
use Rattle.refine.specs.Refine.{answer_to, table_after}
use Rattle.request_log.specs.Room.{grow_room, line_room, table_room}
use Rattle.replay.specs.Replay.{Replay, replay_from, text_of, grow_text, grow_answer, grow_buffer}
use Rattle.replay.specs.Inside.Carrying.{carried}
use Rattle.replay.proofs.Running.{Held, held_within, held_after, replay_none, replay_bad, replay_more}
use Rattle.replay.proofs.Growing.{pair_bad, fresh_bad, fresh_good}

-- few bytes of text for so many bytes of the log
abbrev Few : Replay → ℕ → Type 0
Few r bytes = length r.text ≤ line_room * bytes + table_room

-- no request: the table alone
none_few : (t : Table) → Held t → length (replay_from t (no_more (answer tt))).text ≤ table_room
none_few t h =
    omega
    (arith, ap (λ (r : Replay). length r.text) (replay_none t), table_most (rows_in t), rows_length t.columns 0 t.count, held_within t h)

along : {r s : Replay} (bytes : ℕ) → r ≡ s → Few s bytes → Few r bytes
along bytes e f = omega (arith, ap (λ (x : Replay). length x.text) e)

requests_few : (k : ℕ) (log : List ℕ) (at : ℕ) (t : Table) → Held t → Few (replay_from t (requests_from k log at)) (length log - at)
unfolding requests_from
requests_few zero log at t h = omega (arith, none_few t h)
requests_few (suc k) log at t h =
    by_lt at (length log)
    (λ less. by_answer (part_at log at)
    (λ p e.
    let b = bytes_in log p in
    let others = requests_from k log p.end in
    let i = part_in log at p e in
    let f = requests_few k log p.end (table_after t b) (held_after t b h) in
    let n = length-append (line_text (answer_to t b)) (replay_from (table_after t b) others).text in
    along (length log - at) (ap (replay_from t) (one_more_lem log at k less e) ∙ replay_more t b others) (omega (arith, i, n, f, line_most (answer_to t b))))
    (λ n e.
    let m = length-append (line_text (refused n)) (replay_from t (no_more (answer tt))).text in
    along (length log - at) (ap (replay_from t) (no_more_lem log at k less e) ∙ replay_bad t n) (omega (arith, m, none_few t h, line_most (refused n)))))
    (λ more. along (length log - at) (ap (replay_from t) (stop log at (suc k) more)) (omega (arith, none_few t h)))

few : (d : Columns) (log : List ℕ) (next : ℕ) → columns_bad d 1 ≡ false → length (carried d log next).text ≤ line_room * length log + table_room
unfolding requests_at
few d log next h = omega (arith, requests_few (length log) log next (record { columns = d; count = 1 }) h)

-- the law
pub grow_room_lem : (c : Columns) (log : List ℕ) → length (grow_text c log) ≤ grow_room (length log)
unfolding grow_room text_of
grow_room_lem c log =
    by_answer (pair_of log)
    (λ p e. by_answer (counted (fresh_rows c p.id p.quota))
    (λ n f. let g = fresh_good c log refl e refl refl f in rw g.0 (few (afterwards (fresh_rows c p.id p.quota) c) log p.next g.1.0))
    (λ n f. rw (fresh_bad c log refl e refl refl f).0 (omega (arith, line_most (refused n)))))
    (λ n e. rw (pair_bad c log refl e) (omega (arith, line_most (refused n))))

-- a buffer with the room holds the text at its start; the answer is never that there is none
module _ (c : Columns) (log buffer : List ℕ) {a : Option ℕ} (room : grow_room (length log) ≤ length buffer) (said : a ≡ grow_answer c log buffer) where
  pub grown_text : {n : ℕ} {new : List ℕ} → a ≡ Some n → new ≡ grow_buffer c log buffer → (n ≤ length new) × (take n new ≡ grow_text c log)
  unfolding grow_answer grow_buffer
  grown_text {n} {new} e wrote =
      let most = grow_room_lem c log in
      let k : Some (length (grow_text c log)) ≡ Some n = sym (rw (le-leb _ _ room) at said) ∙ e in
      let j : length (grow_text c log) ≡ n = cc in
      let f : new ≡ after buffer 0 (grow_text c log) = rw (le-leb _ _ room) at wrote in
      let same = ap length f ∙ after_same buffer 0 (grow_text c log) (omega arith) in
      (omega arith, ap (λ i. take i new) (sym j) ∙ ap (take (length (grow_text c log))) f ∙ after_start buffer (grow_text c log) (omega arith))

  pub grown_room : {C : Type 0} → a ≡ None → C
  unfolding grow_answer
  grown_room e =
      let k : Some (length (grow_text c log)) ≡ None = sym (rw (le-leb _ _ room) at said) ∙ e in
      let z : ◌≡◌ {A = ℕ} 0 1 = cc in
      let f : ⊥ = omega arith in
      absurd f
