-- The whole of a log: the room, the fresh pair, and then the requests.
use Rattle.std.specs.Prelude.{Option, Some, None}
use mathlib.Core.Path.{◌≡◌, ap, sym, ◌∙◌}
use mathlib.Core.Bool.{◌||◌}
use mathlib.Core.List.{List}
use Prim.Native.Nat.{ℕ, ◌+◌, ◌<◌, ◌≤◌}
use native.Mathlib.Omega.{arith}
use lib.Dec.{eqb}
use lib.ListN.{length}
use borrow.Author.Tests.{le-leb, lt-leb}
use Rattle.rules.specs.Answers.{Answer, answer, refused}
use Rattle.rules.specs.Buffers.{after}
use Rattle.rules.proofs.Answers.{same_answer, peel, then_answer, then_refused}
use Rattle.table.specs.declared.Row.{Row}
use Rattle.table.specs.Columns.{Columns, put, counted, afterwards}
use Rattle.table.specs.Check.{lengths_bad}
use Rattle.fresh.specs.Fresh.{fresh_rows}
use Rattle.table.proofs.Lengths.{lengths_good, good_count, put_length, put_lengths}
use Rattle.request_log.specs.declared.Pair.{Pair}
use Rattle.request_log.specs.Log.{pair_of}
use Rattle.request_log.proofs.Laws.{pair_in}
use Rattle.lines.specs.Lines.{line_text}
use Rattle.request_log.specs.Room.{grow_room}
use Rattle.replay.specs.Replay.{Replay, replay_of, text_of, columns_after, grow_text, grow_columns, grow_answer, grow_buffer, grow_table}
use Rattle.replay.specs.Inside.Carrying.{carried}
use Rattle.replay.proofs.Running.{Held, make_held}

-- ## The fresh pair

-- fresh makes one row, in columns that hold it
fresh_one : (c : Columns) (id quota : ℕ) {t : List Row} → fresh_rows c id quota ≡ answer t → (length t ≡ 1) × Held (record { columns = put t c; count = 1 })
unfolding fresh_rows
fresh_one c id quota {t} e =
    let l = peel (lengths_bad c) _ _ e in
    let z = peel (eqb id 0 || eqb quota 0) _ _ l.1 in
    let one : length t ≡ 1 = sym (ap length (same_answer z.1)) in
    let some = (lengths_good c l.0).some in
    let fits : length t ≤ length c.id = omega arith in
    (one, make_held (put t c) 1 (put_lengths t c l.0 fits) (good_count _ _ (omega arith) (omega (arith, put_length t c fits))))

module _ (c : Columns) (log : List ℕ) where
  pub pair_bad : {a : Answer Pair} {n : ℕ} → a ≡ pair_of log → a ≡ refused n → replay_of c log ≡ refused n
  unfolding replay_of
  pair_bad said k = let e = sym said ∙ k in rw e

  -- fresh is refused, or leaves one row
  module _ {q : Answer Pair} {p : Pair} (read : q ≡ pair_of log) (pair : q ≡ answer p) {d : Columns} (left : d ≡ afterwards (fresh_rows c p.id p.quota) c)
      {a : Answer ℕ} (said : a ≡ counted (fresh_rows c p.id p.quota)) where
    pub fresh_bad : {n : ℕ} → a ≡ refused n → (replay_of c log ≡ refused n) × (d ≡ c)
    unfolding replay_of
    fresh_bad k =
        let e = sym read ∙ pair in
        let f = then_refused (fresh_rows c p.id p.quota) _ (sym said ∙ k) in
        (rw (e, f), left ∙ ap (λ x. afterwards x c) f)

    pub fresh_good : {n : ℕ} → a ≡ answer n → (replay_of c log ≡ answer (carried d log p.next)) × (Held (record { columns = d; count = 1 }) × (p.next ≤ length log))
    unfolding replay_of
    fresh_good k =
        let e = sym read ∙ pair in
        let f = then_answer (fresh_rows c p.id p.quota) _ (sym said ∙ k) in
        let o = fresh_one c p.id p.quota f.1 in
        let l : d ≡ put f.0 c = left ∙ ap (λ x. afterwards x c) f.1 in
        (rw (e, f.1, o.0, l), (rw l o.1, pair_in log p e))

-- ## The answer, the buffer and the columns

module _ (c : Columns) (log buffer : List ℕ) where
  abbrev pub Grows : Option ℕ → List ℕ → Columns → Type 0
  Grows w text d = (w ≡ grow_answer c log buffer) × ((text ≡ grow_buffer c log buffer) × (d ≡ grow_table c log buffer))

  -- too short a buffer
  pub no_room : length buffer < grow_room (length log) → Grows None buffer c
  unfolding grow_answer grow_buffer grow_table
  no_room h = (rw (lt-leb _ _ h), (rw (lt-leb _ _ h), rw (lt-leb _ _ h)))

  module _ (room : grow_room (length log) ≤ length buffer) where
    grows : {n : ℕ} {text : List ℕ} {d : Columns} → n ≡ length (grow_text c log) → text ≡ after buffer 0 (grow_text c log) → d ≡ grow_columns c log → Grows (Some n) text d
    unfolding grow_answer grow_buffer grow_table
    grows n t d = (rw (le-leb _ _ room) (ap Some n), (rw (le-leb _ _ room) t, rw (le-leb _ _ room) d))

    -- a bad fresh pair
    pub grows_bad : {m n : ℕ} {text : List ℕ} {d : Columns} → replay_of c log ≡ refused m → n ≡ 0 + length (line_text (refused m))
        → text ≡ after buffer 0 (line_text (refused m)) → d ≡ c → Grows (Some n) text d
    unfolding text_of columns_after
    grows_bad e k t s = grows (rw e (omega (arith, k))) (rw e t) (rw e s)

    -- the requests, and then the table
    pub grows_good : {r : Replay} {n : ℕ} {text : List ℕ} {d : Columns} → replay_of c log ≡ answer r → n ≡ length r.text → text ≡ after buffer 0 r.text
        → d ≡ r.table.columns → Grows (Some n) text d
    unfolding text_of columns_after
    grows_good e k t s = grows (rw e k) (rw e t) (rw e s)
