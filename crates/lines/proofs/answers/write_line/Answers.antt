-- `lines::answers::write_line`: a line for each case.
use mathlib.Core.Path.{ap, sym, ◌∙◌}
use mathlib.Core.List.{[], ◌∷◌, ◌++◌}
use Rattle.rules.specs.Buffers.{written}
use Rattle.rules.specs.Says.{says}
use Rattle.lines.specs.Lines.{field_text, line_text}
use Rattle.lines.proofs.Laws.{ok_line, no_line, wrote_same}
use Rattle.lines.proofs.answers.write_line.Goals as goal

pub returns-in-Ok : goal.returns-in-Ok
returns-in-Ok c =
    let e = c.write_word.ensures in
    let f = ok_line _ ∙ ap line_text (sym (ap says c.in-Ok.is)) in
    record { result_value = e.result_value ∙ ap (written c.args.writer.now.buffer.now c.args.writer.now.at) f; wrote = wrote_same f e.wrote }

pub returns-in-Err : goal.returns-in-Err
returns-in-Err c =
    let e = c.write_word-in-Err.ensures in
    let f = ap (λ n. (110 ∷ 111 ∷ 32 ∷ []) ++ field_text n 10) c.number.ensures ∙ no_line _ ∙ ap line_text (sym (ap says c.in-Err.is)) in
    record { result_value = e.result_value ∙ ap (written c.args.writer.now.buffer.now c.args.writer.now.at) f; wrote = wrote_same f e.wrote }
