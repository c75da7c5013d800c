-- One of three words.
use Rattle.std.proofs.Common.{sym, ◌∙◌, subst, arith}
use Rattle.writer.specs.Writing.{WroteAll}
use Rattle.writer.proofs.Writing.{wrote_all}
use Rattle.board.proofs.Laws.{state_on, state_ended, state_ahead}
use Rattle.board.proofs.fields.write_state.Goals as goal

pub returns-then-runs : goal.returns-then-runs
returns-then-runs c =
    subst (WroteAll c.args.writer.now c.bytes.new.self) (state_on _ _ (sym c.runs.ensures ∙ c.if-runs.true)) (wrote_all c.bytes.ensures.wrote (omega (arith, c.requires)))

pub returns-then-has_ended : goal.returns-then-has_ended
returns-then-has_ended c =
    subst (WroteAll c.args.writer.now c.bytes-then-has_ended.new.self) (state_ended _ _ (sym c.runs.ensures ∙ c.if-runs.false) (sym c.has_ended.ensures ∙ c.if-has_ended.true))
    (wrote_all c.bytes-then-has_ended.ensures.wrote (omega (arith, c.requires)))

pub returns : goal.returns
returns c =
    subst (WroteAll c.args.writer.now c.bytes-2.new.self) (state_ahead _ _ (sym c.runs.ensures ∙ c.if-runs.false) (sym c.has_ended.ensures ∙ c.if-has_ended.false))
    (wrote_all c.bytes-2.ensures.wrote (omega (arith, c.requires)))
