-- `load::reading::read` meets its contract: each step's refusal is the read's, and the rows that pass the check are copied.
use Rattle.std.proofs.Common.{rules, length, arith, ap, sym, ◌∙◌}
use Rattle.std.proofs.lemmas.Result.{err_from_is_err_and}
use Rattle.rules.specs.Answers.{answer, given}
use Rattle.table.specs.Columns.{columns}
use Rattle.load.specs.Work.{work_columns}
use Rattle.table.proofs.Passing.{check_passed}
use Rattle.load.proofs.Checking.{rows_checked_lem, not_read, bad_lengths, no_count, bad_count, rows_on, count_fits, fronts_in, were_read}
use Rattle.load.proofs.reading.read.Goals as goal

pub returns-then-lengths_bad : goal.returns-then-lengths_bad
returns-then-lengths_bad c =
    let d = columns c.args.id.now c.args.l.now c.args.r.now c.args.q.now in
    let p = not_read d c.args.bytes.now (bad_lengths d _ (sym c.lengths_bad.ensures ∙ c.if-lengths_bad.true)) in
    record { result_value = p.0; q_value = p.1 }

pub returns-in_err-first : goal.returns-in_err-first
returns-in_err-first c =
    let d = columns c.args.id.now c.args.l.now c.args.r.now c.args.q.now in
    let r = err_from_is_err_and c.from_residual.result c.from_residual.ensures.1 in
    let p = not_read d c.args.bytes.now (no_count d _ (sym c.lengths_bad.ensures ∙ c.if-lengths_bad.false) c.in_err-first.ensures) in
    record { result_value = rw (r.1, r.2) p.0; q_value = p.1 }

pub returns-then-count_bad : goal.returns-then-count_bad
returns-then-count_bad c =
    let d = columns c.args.id.now c.args.l.now c.args.r.now c.args.q.now in
    let p = not_read d c.args.bytes.now
    (bad_count d _ (sym c.lengths_bad.ensures ∙ c.if-lengths_bad.false) c.in_ok-first.ensures (sym c.count_bad.ensures ∙ c.if-count_bad.true)) in
    record { result_value = p.0; q_value = p.1 }

pub rows_to_end-requires : goal.rows_to_end-requires
rows_to_end-requires c =
    let d = columns c.args.id.now c.args.l.now c.args.r.now c.args.q.now in
    (count_fits d _ (sym c.lengths_bad.ensures ∙ c.if-lengths_bad.false) c.in_ok-first.ensures (sym c.count_bad.ensures ∙ c.if-count_bad.false)).2

pub returns-in_err-rows_to_end : goal.returns-in_err-rows_to_end
returns-in_err-rows_to_end c =
    let d = columns c.args.id.now c.args.l.now c.args.r.now c.args.q.now in
    let on = rows_on d c.args.bytes.now (sym c.lengths_bad.ensures ∙ c.if-lengths_bad.false) c.in_ok-first.ensures (sym c.count_bad.ensures ∙ c.if-count_bad.false) in
    let p = not_read d c.args.bytes.now (c.in_err-rows_to_end.ensures ∙ on) in
    let r = err_from_is_err_and c.from_residual-in_err-rows_to_end.result c.from_residual-in_err-rows_to_end.ensures.1 in
    record { result_value = rw (r.1, r.2) p.0; q_value = p.1 }

pub returns-in_err-rows : goal.returns-in_err-rows
returns-in_err-rows c =
    let d = columns c.args.id.now c.args.l.now c.args.r.now c.args.q.now in
    let good = sym c.lengths_bad.ensures ∙ c.if-lengths_bad.false in
    let fits = sym c.count_bad.ensures ∙ c.if-count_bad.false in
    let n = count_fits d c.args.bytes.now good c.in_ok-first.ensures fits in
    let w = rows_checked_lem (work_columns c.rows_to_end.new.work) {count = c.in_ok-first.first.value} (search rules) (search rules) (search rules) (search rules) n.0 n.2 _ (ap given c.in_err-rows.ensures.rows) in
    let p = not_read d c.args.bytes.now (w ∙ c.in_ok-rows_to_end.ensures ∙ rows_on d c.args.bytes.now good c.in_ok-first.ensures fits) in
    let r = err_from_is_err_and c.from_residual-in_err-rows.result c.from_residual-in_err-rows.ensures.1 in
    record { result_value = rw (r.1, r.2) p.0; q_value = p.1 }

pub copy-requires : goal.copy-requires
copy-requires c =
    let d = columns c.args.id.now c.args.l.now c.args.r.now c.args.q.now in
    let good = sym c.lengths_bad.ensures ∙ c.if-lengths_bad.false in
    let fits = sym c.count_bad.ensures ∙ c.if-count_bad.false in
    (fronts_in d (work_columns c.rows_to_end.new.work) good (count_fits d c.args.bytes.now good c.in_ok-first.ensures fits).1).0

pub copy-requires-2 : goal.copy-requires-2
copy-requires-2 c =
    let d = columns c.args.id.now c.args.l.now c.args.r.now c.args.q.now in
    let good = sym c.lengths_bad.ensures ∙ c.if-lengths_bad.false in
    let fits = sym c.count_bad.ensures ∙ c.if-count_bad.false in
    (fronts_in d (work_columns c.rows_to_end.new.work) good (count_fits d c.args.bytes.now good c.in_ok-first.ensures fits).1).1

pub copy-requires-3 : goal.copy-requires-3
copy-requires-3 c =
    let d = columns c.args.id.now c.args.l.now c.args.r.now c.args.q.now in
    let good = sym c.lengths_bad.ensures ∙ c.if-lengths_bad.false in
    let fits = sym c.count_bad.ensures ∙ c.if-count_bad.false in
    (fronts_in d (work_columns c.rows_to_end.new.work) good (count_fits d c.args.bytes.now good c.in_ok-first.ensures fits).1).2

pub copy-requires-4 : goal.copy-requires-4
copy-requires-4 c =
    let d = columns c.args.id.now c.args.l.now c.args.r.now c.args.q.now in
    let good = sym c.lengths_bad.ensures ∙ c.if-lengths_bad.false in
    let fits = sym c.count_bad.ensures ∙ c.if-count_bad.false in
    (fronts_in d (work_columns c.rows_to_end.new.work) good (count_fits d c.args.bytes.now good c.in_ok-first.ensures fits).1).3

pub returns : goal.returns
returns c =
    let d = columns c.args.id.now c.args.l.now c.args.r.now c.args.q.now in
    let good = sym c.lengths_bad.ensures ∙ c.if-lengths_bad.false in
    let fits = sym c.count_bad.ensures ∙ c.if-count_bad.false in
    let n = count_fits d c.args.bytes.now good c.in_ok-first.ensures fits in
    let w = rows_checked_lem (work_columns c.rows_to_end.new.work) {count = c.in_ok-first.first.value} (search rules) (search rules) (search rules) (search rules) n.0 n.2 _ (ap given c.in_ok-rows.ensures.rows) in
    let p = were_read c.in_ok-rows.rows d c.args.bytes.now
    (ap answer (sym (check_passed _ _ (sym c.in_ok-rows.ensures.rows)).1) ∙ w ∙ c.in_ok-rows_to_end.ensures ∙ rows_on d c.args.bytes.now good c.in_ok-first.ensures fits) in
    let k = c.in_ok-rows.ensures.cut in
    record {
      result_value = ap answer c.len.ensures ∙ p.0;
      q_value = rw (c.copy.ensures, c.copy-2.ensures, c.copy-3.ensures, c.copy-4.ensures) (rw (k.id, k.l, k.r, k.q) at p.1);
    }
