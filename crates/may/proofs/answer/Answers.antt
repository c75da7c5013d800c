-- The text has room for any line.
use Rattle.std.proofs.Common.{ap, ◌∙◌, MutBor, List, ℕ, rules}
use Rattle.decision_line.specs.DecisionText.{decision_text}
use Rattle.may.proofs.Laws.{line_answered}
use Rattle.may.proofs.answer.Goals as goal

pub returns-clause-prefix_len : goal.returns-clause-prefix_len
returns-clause-prefix_len c =
    let b = ap (λ (r : MutBor (List ℕ)). r.now) c.new-writer.ensures.0 in
    let l = line_answered c.args.text.now c.new-writer.result c.write_decision.new.writer _ _ c.requires b c.new-writer.ensures.1 c.write_decision.result c.unwrap_or.ensures c.write_decision.ensures.wrote c.write_decision.ensures.result_value in
    search (rules, l.0)

pub returns-clause-text_value : goal.returns-clause-text_value
returns-clause-text_value c =
    let b = ap (λ (r : MutBor (List ℕ)). r.now) c.new-writer.ensures.0 in
    let l = line_answered c.args.text.now c.new-writer.result c.write_decision.new.writer _ _ c.requires b c.new-writer.ensures.1 c.write_decision.result c.unwrap_or.ensures c.write_decision.ensures.wrote c.write_decision.ensures.result_value in
    search (rules, l.1 ∙ ap decision_text c.question.ensures)
