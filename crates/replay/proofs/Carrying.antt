-- The loop over the requests: what is done, with what is still to come, is the whole.
use mathlib.Core.Path.{◌≡◌, refl, ap, ap₂, sym, subst, ◌∙◌}
use mathlib.Core.List.{List, [], ◌++◌}
use Prim.Native.Nat.{ℕ, ◌+◌, ◌*◌, ◌-◌, ◌<◌, ◌≤◌}
use native.Mathlib.Omega.{arith}
use lib.ListN.{length, length-append}
use Rattle.rules.specs.Answers.{Answer, answer, refused, or_else}
use Rattle.rules.specs.Buffers.{after}
use Rattle.rules.proofs.Buffers.{written_all, after_none, after_same, after_then}
use Rattle.table.specs.Columns.{Columns}
use Rattle.table.proofs.Rows.{rows_length}
use Rattle.request_log.specs.declared.Part.{Part}
use Rattle.request_log.specs.Log.{part_at, bytes_in, requests_from, requests_at}
use Rattle.request_log.proofs.Laws.{part_in, stop, bad, goes_on}
use Rattle.lines.specs.Lines.{line_text, table_text, table_answer, table_buffer}
use Rattle.lines.proofs.Laws.{line_most, table_most, table_good}
use Rattle.table.specs.Columns.{Table, rows_in}
use Rattle.refine.specs.Refine.{answer_to, table_after}
use Rattle.request_log.specs.Room.{line_room, table_room}
use Rattle.replay.specs.Replay.{Replay, replay_from}
use Rattle.replay.specs.Inside.Carrying.{carried}
use Rattle.replay.proofs.Running.{Held, held_within, held_after, before, before_before, replay_none, replay_bad, replay_more}

-- the lines done stand in the buffer, and what is to come from here on, after them, is the whole
pub record Going (whole : Replay) (log text₀ : List ℕ) (t : Table) (text : List ℕ) (at p : ℕ) : Type 0 where
  pub most : ℕ
  pub done : List ℕ
  pub within : at ≤ length log
  pub enough : length log ≤ at + most
  pub here : p ≡ length done
  pub wrote : text ≡ after text₀ 0 done
  pub room : p + line_room * (length log - at) + table_room ≤ length text₀
  pub rest : whole ≡ before done (replay_from t (requests_from most log at))
  pub held : Held t

pub going_begins : {log text : List ℕ} {c : Columns} {from : ℕ} → Held (record { columns = c; count = 1 }) → from ≤ length log
    → line_room * (length log - from) + table_room ≤ length text → Going (carried c log from) log text (record { columns = c; count = 1 }) text from 0
unfolding requests_at
going_begins {log} {text} h w r =
    record {
      most = length log;
      done = [];
      within = w;
      enough = omega arith;
      here = refl;
      wrote = sym (after_none text 0 (omega arith));
      room = omega arith;
      rest = refl;
      held = h;
    }

module _ {whole : Replay} {log text₀ : List ℕ} {t : Table} {text : List ℕ} {at p : ℕ} (g : Going whole log text₀ t text at p) where
  pub going_same : length text ≡ length text₀
  going_same = let h = g.here in let r = g.room in ap length g.wrote ∙ after_same text₀ 0 g.done (omega arith)

  -- there is room for one more line
  pub line_room_lem : at < length log → p + line_room ≤ length text
  line_room_lem h = omega (arith, g.room, going_same)

  -- a line more, and what follows it
  line : {next : List ℕ} {n to : ℕ} {u : Table} (j : ℕ) (a : Answer ℕ) → at < to → to ≤ length log → length log ≤ to + j → Held u
      → replay_from t (requests_from g.most log at) ≡ before (line_text a) (replay_from u (requests_from j log to))
      → n ≡ p + length (line_text a) → next ≡ after text p (line_text a) → Going whole log text₀ u next to n
  line {next} {n} {to} {u} j a less within enough held e en ex =
      let b = line_most a in
      let r = g.room in
      let h = g.here in
      let s = length-append g.done (line_text a) in
      record {
        most = j;
        done = g.done ++ line_text a;
        within = within;
        enough = enough;
        here = omega arith;
        wrote = after_then text₀ 0 g.done (line_text a) (omega arith) g.wrote (omega arith) ex;
        room = omega arith;
        rest = g.rest ∙ ap (before g.done) e ∙ before_before g.done (line_text a) (replay_from u (requests_from j log to));
        held = held;
      }

  -- a bad length ends the log
  pub going_bad : {k n : ℕ} {next : List ℕ} → at < length log → part_at log at ≡ refused k → n ≡ p + length (line_text (refused k))
      → next ≡ after text p (line_text (refused k)) → Going whole log text₀ t next (length log) n
  going_bad {k} h e en ex =
      line 0 (refused k) h (omega arith) (omega arith) g.held
      (ap (replay_from t) (bad log at g.most g.enough h e) ∙ replay_bad t k ∙ ap (λ q. before (line_text (refused k)) (replay_from t q)) (sym (stop log (length log) 0 (omega arith))))
      en ex

  -- a request is carried out
  pub going_on : (part : Part) → at < length log → part_at log at ≡ answer part → {d : Columns} {next : List ℕ} {n m : ℕ} (a : Answer ℕ)
      → a ≡ answer_to t (bytes_in log part) → d ≡ (table_after t (bytes_in log part)).columns → m ≡ or_else a t.count
      → n ≡ p + length (line_text a) → next ≡ after text p (line_text a) → Going whole log text₀ (record { columns = d; count = m }) next part.end n
  going_on part h e {d} {next} {n} {m} a ea ed em en ex =
      let i = part_in log at part e in
      let b = bytes_in log part in
      let k = goes_on log at g.most g.enough h e in
      let others = requests_from k.0 log part.end in
      let u : record { columns = d; count = m } ≡ table_after t b =
      ap₂ (λ (x : Columns) (y : ℕ). record { columns = x; count = y }) ed (em ∙ ap (λ (x : Answer ℕ). or_else x t.count) ea) in
      line k.0 a (omega (arith, i)) i.2 k.2 (subst Held (sym u) (held_after t b g.held))
      (ap (replay_from t) k.1 ∙ replay_more t b others ∙ ap₂ (λ (x : Answer ℕ) (y : Table). before (line_text x) (replay_from y others)) (sym ea) (sym u)) en ex

  -- the log ends: the table follows, and there is room for it
  abbrev lines : List ℕ
  lines = table_text (rows_in t)

  table_room_lem : p + length lines ≤ length text
  table_room_lem = omega (arith, g.room, going_same, table_most (rows_in t), rows_length t.columns 0 t.count, held_within t g.held)

  module _ (w : Answer ℕ) (ew : w ≡ table_answer t.columns t.count text p) where
    pub table_bytes_lem : or_else w 0 ≡ length lines
    table_bytes_lem =
        ap (λ (x : Answer ℕ). or_else x 0) (ew ∙ sym (table_good t.columns t.count text p g.held).0 ∙ written_all text p lines table_room_lem)

    pub table_fits : p + or_else w 0 ≤ length text
    table_fits = omega (arith, table_bytes_lem, table_room_lem)

    pub going_ends : length log ≤ at → {next : List ℕ} {n : ℕ} → next ≡ table_buffer t.columns t.count text p → n ≡ or_else w 0
        → (p + n ≡ length whole.text) × ((next ≡ after text₀ 0 whole.text) × (t.columns ≡ whole.table.columns))
    going_ends h {next} {n} ex en =
        let k = g.here in
        let s = going_same in
        let r = table_room_lem in
        let b = table_bytes_lem in
        let all : whole ≡ before g.done (record { table = t; text = lines }) =
        g.rest ∙ ap (λ q. before g.done (replay_from t q)) (stop log at g.most h) ∙ ap (before g.done) (replay_none t) in
        let text_is : next ≡ after text p lines = ex ∙ sym (table_good t.columns t.count text p g.held).1 in (
          omega (arith, ap (λ (x : Replay). length x.text) all, length-append g.done lines),
          (
            after_then text₀ 0 g.done lines (omega arith) g.wrote (omega arith) text_is ∙ ap (λ (x : Replay). after text₀ 0 x.text) (sym all),
            ap (λ (x : Replay). x.table.columns) (sym all),
          ),
        )
