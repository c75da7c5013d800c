-- `fresh::fresh` meets its contract: every check comes before the first store.
use Rattle.std.proofs.Common.{sym, ◌∙◌, arith}
use Rattle.table.specs.Columns.{columns}
use Rattle.table.proofs.Lengths.{lengths_good, holds_count}
use Rattle.table.proofs.Rows.{put_one}
use Rattle.fresh.specs.Fresh.{fresh_rows}
use Rattle.fresh.proofs.fresh.Goals as goal

pub bounds-id-0 : goal.bounds-id-0
bounds-id-0 c = let l = lengths_good _ (sym c.lengths_bad.ensures ∙ c.if-lengths_bad.false) in omega arith

pub bounds-l-0 : goal.bounds-l-0
bounds-l-0 c = let l = lengths_good _ (sym c.lengths_bad.ensures ∙ c.if-lengths_bad.false) in omega arith

pub bounds-r-0 : goal.bounds-r-0
bounds-r-0 c = let l = lengths_good _ (sym c.lengths_bad.ensures ∙ c.if-lengths_bad.false) in omega arith

pub bounds-q-0 : goal.bounds-q-0
bounds-q-0 c = let l = lengths_good _ (sym c.lengths_bad.ensures ∙ c.if-lengths_bad.false) in omega arith

pub returns-clause-q_value : goal.returns-clause-q_value
unfolding fresh_rows
returns-clause-q_value c =
    let cols = columns c.args.id.now c.args.l.now c.args.r.now c.args.q.now in
    let l = lengths_good cols (sym c.lengths_bad.ensures ∙ c.if-lengths_bad.false) in
    rw (sym c.lengths_bad.ensures ∙ c.if-lengths_bad.false, c.if-group-quota.false)
    (put_one cols (record { id = c.args.group; l = 1; r = 1; q = c.args.quota }) (holds_count l l.some))
