-- The text has room for any log of 65536 bytes.
use Rattle.std.proofs.Common.{◌≡◌, ℕ, ◌≤◌, List, length, replicate, take, sym, refl, ap, ◌∙◌, arith}
use Rattle.std.specs.Prelude.{Option, Some, None, unwrap_or}
use Rattle.rules.specs.Limits.{most_rows}
use Rattle.table.specs.Columns.{columns}
use Rattle.request_log.specs.Room.{grow_room}
use Rattle.replay.specs.Replay.{blank, grow_answer, grow_buffer, grow_text}
use Rattle.replay.proofs.Room.{grown_text, grown_room}
use Rattle.grow.proofs.write_text.Goals as goal

room : (log text : List ℕ) → length log ≤ 65536 → 933888 ≤ length text → grow_room (length log) ≤ length text
unfolding grow_room
room log text short long = omega arith

-- the table is new
made : {id l r q : List ℕ} → id ≡ replicate most_rows 0 → l ≡ replicate most_rows 0 → r ≡ replicate most_rows 0 → q ≡ replicate most_rows 0 → columns id l r q ≡ blank
made a b c d = rw (a, b, c, d)

-- what the call answers that has the room
whole : {id l r q : List ℕ} (a : Option ℕ) (log text : List ℕ) {new : List ℕ} {n : ℕ} → columns id l r q ≡ blank → n ≡ unwrap_or a 0
    → length log ≤ 65536 → 933888 ≤ length text → a ≡ grow_answer (columns id l r q) log text → new ≡ grow_buffer (columns id l r q) log text
    → (n ≤ length new) × (take n new ≡ grow_text blank log)
whole (Some k) log text b u short long e w =
    grown_text blank log text (room log text short long) (e ∙ ap (λ x. grow_answer x log text) b) (ap Some (sym u)) (w ∙ ap (λ x. grow_buffer x log text) b)
whole None log text b u short long e w = grown_room blank log text (room log text short long) (e ∙ ap (λ x. grow_answer x log text) b) refl

pub returns-clause-prefix_len : goal.returns-clause-prefix_len
returns-clause-prefix_len c =
    let new_table = made c.column-id.ensures.value c.column-l.ensures.value c.column-r.ensures.value c.column-q.ensures.value in
    (whole c.grow.result c.args.log.now c.args.text.now new_table c.unwrap_or.ensures c.requires.log_len_bound c.requires.in_bounds c.grow.ensures.value c.grow.ensures.text_value).0

pub returns-clause-text_value : goal.returns-clause-text_value
returns-clause-text_value c =
    let new_table = made c.column-id.ensures.value c.column-l.ensures.value c.column-r.ensures.value c.column-q.ensures.value in
    (whole c.grow.result c.args.log.now c.args.text.now new_table c.unwrap_or.ensures c.requires.log_len_bound c.requires.in_bounds c.grow.ensures.value c.grow.ensures.text_value).1
