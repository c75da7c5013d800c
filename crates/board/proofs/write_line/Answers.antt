-- 31, then 30, then the line.
use Rattle.std.proofs.Common.{sym, ◌∙◌}
use Rattle.grant.specs.Says.{grant_of}
use Rattle.board.proofs.Laws.{line_undated, line_short, line_written}
use Rattle.board.proofs.write_line.Goals as goal

pub returns-then-undated : goal.returns-then-undated
returns-then-undated c =
    let p = line_undated c.args.day (grant_of c.args.g) c.args.writer.now (sym c.undated.ensures ∙ c.if-undated.true) in
    record { result_value = p.0; buffer_value = p.1; wrote = p.2 }

pub returns-then-too_short : goal.returns-then-too_short
returns-then-too_short c =
    let p = line_short c.args.day (grant_of c.args.g) c.args.writer.now (sym c.undated.ensures ∙ c.if-undated.false) (sym c.too_short.ensures ∙ c.if-too_short.true) in
    record { result_value = p.0; buffer_value = p.1; wrote = p.2 }

pub returns : goal.returns
returns c =
    let p = line_written c.args.day (grant_of c.args.g) c.args.writer.now (sym c.undated.ensures ∙ c.if-undated.false) (sym c.too_short.ensures ∙ c.if-too_short.false)
    c.write_fields.ensures in
    record { result_value = p.0; buffer_value = p.1; wrote = p.2 }
