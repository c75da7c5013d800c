-- `lines::tables::rows_length` meets its contract: the iterator gives each row, and a row's own length.
use Rattle.std.proofs.Common.{rules, tests, length, ◌∙◌, arith}
use Rattle.std.proofs.lemmas.Iterator.{YieldsList-from_map}
use Rattle.std.proofs.lemmas.Iterator.Consumers.{YieldsList-at, YieldsList-from_first, sum_by_from_yields_List, fits_by_from_yields_list}
use Rattle.table.specs.InUse.{rows_of, rows_left}
use Rattle.table.proofs.RowBytes.{sum_bytes}
use Rattle.lines.specs.Lines.{row_text}
use Rattle.lines.proofs.Laws.{text_most}
use Rattle.lines.proofs.tables.rows_length.Goals as goal

pub sum-requires-clause-fits : goal.sum-requires-clause-fits
sum-requires-clause-fits c =
    let n = sum_bytes row_text (rows_of c.args.rows) in
    let m = text_most c.args.rows in
    fits_by_from_yields_list (λ w. length (row_text w)) (rows_of c.args.rows) c.map.result _
    (YieldsList-from_map _ (λ w. length (row_text w))
    (YieldsList-at c.map.ensures.source (YieldsList-from_first (λ x. x) rows_left (rows_of c.args.rows) c.into_iter.ensures.into_iter_gives))
    c.map.ensures.closure
    (λ x r q k. search (rules, tests)))
    (omega arith)

pub returns : goal.returns
returns c =
    sum_by_from_yields_List (λ w. length (row_text w)) (rows_of c.args.rows) c.map.result _ c.sum.ensures.ran
    (YieldsList-from_map _ (λ w. length (row_text w))
    (YieldsList-at c.map.ensures.source (YieldsList-from_first (λ x. x) rows_left (rows_of c.args.rows) c.into_iter.ensures.into_iter_gives))
    c.map.ensures.closure
    (λ x r q k. search (rules, tests)))
    ∙ sum_bytes row_text (rows_of c.args.rows)
