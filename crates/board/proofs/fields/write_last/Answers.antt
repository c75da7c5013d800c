-- `open`, or a date.
use Rattle.std.proofs.Common.{ap, sym, ◌∙◌, subst, arith}
use Rattle.writer.specs.Writing.{WroteAll}
use Rattle.writer.proofs.Writing.{wrote_all}
use Rattle.board.specs.Board.{left_in, last_text, field}
use Rattle.board.proofs.Laws.{last_open, last_dated_lem}
use Rattle.board.proofs.fields.write_last.Goals as goal

pub returns-then-last-eq0 : goal.returns-then-last-eq0
returns-then-last-eq0 c =
    subst (WroteAll c.args.writer.now c.bytes.new.self)
    (last_open ∙ ap (λ n. field (left_in 10 (last_text n)) 32) (sym c.if-last-eq0.true))
    (wrote_all c.bytes.ensures.wrote (omega (arith, c.requires.1)))

pub returns : goal.returns
returns c =
    subst (λ t. WroteAll c.args.writer.now c.write_first.new.writer (field (left_in 10 t) 32)) (sym (last_dated_lem c.args.last c.if-last-eq0.false)) c.write_first.ensures
