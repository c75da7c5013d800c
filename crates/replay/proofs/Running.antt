-- The table after a request, and the text of requests one after another.
use Rattle.std.specs.Prelude.{Result, Ok, Err}
use Rattle.std.specs.Result.{result_unwrap_or}
use mathlib.Core.Path.{◌≡◌, refl, ap, sym}
use mathlib.Core.Bool.{false}
use mathlib.Core.List.{List, ◌++◌, flat_map, append_assoc}
use Prim.Native.Nat.{ℕ, ◌≤◌}
use native.Mathlib.Omega.{arith}
use lib.ListN.{length}
use Rattle.rules.specs.Says.{says}
use Rattle.rules.specs.declared.Refusal.{Refusal}
use Rattle.rules.specs.Answers.{Answer, answer, refused, or_else}
use Rattle.rules.specs.Limits.{most_rows}
use Rattle.rules.proofs.Answers.{same_answer, never_refused}
use Rattle.rules.proofs.Bools.{or_none}
use Rattle.request.proofs.ReadLaws.{request_read}
use Rattle.table.specs.declared.Row.{Row}
use Rattle.table.specs.Columns.{Columns, put, counted, afterwards}
use Rattle.table.specs.Check.{lengths_bad, count_bad}
use Rattle.table.proofs.Lengths.{count_good, good_count, put_length, put_lengths}
use Rattle.table.proofs.Rows.{rows_length}
use Rattle.refine.specs.Refine.{refined}
use Rattle.promises.proofs.Refinement.{promises}
use Rattle.request_log.specs.Log.{Requests, no_more, one_more}
use Rattle.lines.specs.Lines.{line_text, table_text, columns_bad}
use Rattle.lines.proofs.Laws.{columns_good}
use Rattle.table.specs.Columns.{Table, rows_in}
use Rattle.refine.specs.Refine.{answer_to, table_after}
use Rattle.replay.specs.Run.{answers_to, table_end}
use Rattle.replay.specs.Replay.{Replay, end_text, replay_from}
use Rattle.replay.specs.Inside.Carrying.{Countable}

-- ## The table after a request

-- columns that hold their count
abbrev pub Held : Table → Type 0
Held t = columns_bad t.columns t.count ≡ false

pub held_within : (t : Table) → Held t → (t.count ≤ length t.columns.id) × (length t.columns.id ≤ 256)
held_within t h = let g = columns_good t.columns t.count h in (g.1, g.0.most)

pub make_held : (c : Columns) (count : ℕ) → lengths_bad c ≡ false → count_bad (length c.id) count ≡ false → columns_bad c count ≡ false
make_held c count e f = rw (e, f)

-- there is room for the rows after an accepted request, and one at least
rows_after_lem : (t : Table) (request : List ℕ) {s : List Row} → Held t → refined t.columns t.count request ≡ answer s
    → (1 ≤ length s) × (length s ≤ length t.columns.id)
rows_after_lem t request h e =
    let p = promises t.columns t.count request e in
    let n = (request_read request p.1).entries_some in
    let c = count_good _ _ (or_none (lengths_bad t.columns) _ h).1 in
    (omega (arith, p.2.refined_length, rows_length t.columns 0 t.count, c), p.2.refined_fits)

pub held_after : (t : Table) (request : List ℕ) → Held t → Held (table_after t request)
held_after t request h = go (refined t.columns t.count request) (λ s e. rows_after_lem t request h e)
  where
    go : (found : Answer (List Row)) → ((s : List Row) → found ≡ answer s → (1 ≤ length s) × (length s ≤ length t.columns.id))
        → columns_bad (afterwards found t.columns) (or_else (counted found) t.count) ≡ false
    go (refused n) k = h
    go (answer s) k =
        let m = k s refl in
        let l = (or_none (lengths_bad t.columns) _ h).0 in
        make_held (put s t.columns) (length s) (put_lengths s t.columns l m.1)
        (good_count _ _ m.0 (omega (arith, put_length s t.columns m.1)))

pub answer_countable : (t : Table) (request : List ℕ) → Held t → Countable (answer_to t request)
answer_countable t request h = go (refined t.columns t.count request) (λ s e. rows_after_lem t request h e)
  where
    go : (found : Answer (List Row)) → ((s : List Row) → found ≡ answer s → (1 ≤ length s) × (length s ≤ length t.columns.id)) → Countable (counted found)
    go (answer s) k = omega (arith, k s refl, held_within t h)
    go (refused n) k = tt

-- ## An answer

-- a count that is printed
pub countable : (a : Answer ℕ) {n : ℕ} → Countable a → a ≡ answer n → n ≤ most_rows
countable (answer m) h e = omega (arith, same_answer e)
countable (refused m) h e = never_refused e

-- what a call answers, or something else where it is refused
pub said_or : (a : Result ℕ Refusal) (d : ℕ) → result_unwrap_or a d ≡ or_else (says a) d
said_or (Ok n) d = refl
said_or (Err why) d = refl

-- ## The replay of requests

-- some lines before others
abbrev pub before : List ℕ → Replay → Replay
before lines r = record { table = r.table; text = lines ++ r.text }

pub before_before : (a b : List ℕ) (r : Replay) → before a (before b r) ≡ before (a ++ b) r
before_before a b r = ap (λ (x : List ℕ). record { table = r.table; text = x }) (sym (append_assoc a b r.text))

module _ (t : Table) where
  pub replay_none : replay_from t (no_more (answer tt)) ≡ record { table = t; text = table_text (rows_in t) }
  unfolding replay_from end_text answers_to table_end flat_map
  replay_none = refl

  -- a bad length prints its line, and ends the requests
  pub replay_bad : (n : ℕ) → replay_from t (no_more (refused n)) ≡ before (line_text (refused n)) (replay_from t (no_more (answer tt)))
  unfolding replay_from end_text answers_to table_end flat_map
  replay_bad n = refl

  pub replay_more : (request : List ℕ) (others : Requests)
      → replay_from t (one_more request others) ≡ before (line_text (answer_to t request)) (replay_from (table_after t request) others)
  unfolding replay_from answers_to table_end flat_map
  replay_more request others =
      ap (λ (x : List ℕ). record { table = table_end (table_after t request) others.bytes; text = x })
      (append_assoc (line_text (answer_to t request)) (flat_map line_text (answers_to (table_after t request) others.bytes)) _)
