-- A writer at the start of a text that has room for any line writes it whole.
use Rattle.std.proofs.Common.{◌≡◌, ℕ, ◌≤◌, List, length, take, sym, ap, ◌∙◌}
use Rattle.std.specs.Prelude.{Result, Ok, Err}
use Rattle.std.specs.Result.{result_unwrap_or}
use Rattle.rules.specs.Answers.{Answer, answer}
use Rattle.rules.specs.Buffers.{written}
use Rattle.rules.specs.Says.{says}
use Rattle.rules.specs.declared.Refusal.{Refusal}
use Rattle.writer.specs.Writing.{Wrote}
use Rattle.writer.specs.declared.Writer.{Writer}
use Rattle.renewals.specs.Dating.{Decision}
use Rattle.decision_line.specs.DecisionText.{decision_text}
use Rattle.decision_line.proofs.Laws.{line_whole, line_fits}

module _ (text : List ℕ) (old new : Writer) (d : Answer Decision) (n : ℕ) (room : 17 ≤ length text) (b : old.buffer.now ≡ text) (z : old.at ≡ 0) where
  pub line_answered : (r : Result ℕ Refusal) → n ≡ result_unwrap_or r 0 → Wrote old new (decision_text d)
      → says r ≡ written old.buffer.now old.at (decision_text d) → (n ≤ length new.buffer.now) × (take n new.buffer.now ≡ decision_text d)
  line_answered (Ok k) u w s = line_whole text d room (rw (b, z) at w.buffer) (sym (rw (b, z) at s) ∙ ap answer (sym u))
  line_answered (Err why) u w s = line_fits text d room (sym (rw (b, z) at s))
