use Rattle.std.proofs.Common.{sym, ◌∙◌, refl}
use Rattle.writer.proofs.Writing.{none_written, all_written, copied}
use Rattle.writer.proofs.Writer.bytes.Goals as goal

pub returns-then-too_short-clause-wrote : goal.returns-then-too_short-clause-wrote
returns-then-too_short-clause-wrote c = none_written c.args.self.now c.args.bytes.now (sym c.too_short.ensures ∙ c.if-too_short.true)

pub returns-clause-wrote : goal.returns-clause-wrote
returns-clause-wrote c =
    let w = c.args.self.now in
    let b = c.args.bytes.now in
    let room = sym c.too_short.ensures ∙ c.if-too_short.false in
    all_written w _ b room (copied w.buffer.now w.at b c.copy_from_slice.ensures.after room) refl refl
