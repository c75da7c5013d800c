-- What is written of a decision's line: it fits in 17 bytes.
use mathlib.Core.Path.{◌≡◌}
use mathlib.Core.List.{List}
use Prim.Native.Nat.{ℕ, ◌≤◌}
use native.Mathlib.Omega.{arith}
use lib.ListN.{length, take}
use Rattle.rules.specs.Answers.{Answer, answer, refused}
use Rattle.rules.specs.Buffers.{written, after}
use Rattle.rules.proofs.Buffers.{start_answers, start_whole}
use Rattle.renewals.specs.Dating.{Decision, on_open, on_until, ended, ahead, never}
use Rattle.lines.proofs.Laws.{field_most}
use Rattle.decision_line.specs.DecisionText.{decision_text}

-- at most 17 bytes
pub decision_most : (d : Answer Decision) → length (decision_text d) ≤ 17
unfolding decision_text
decision_most (answer on_open) = omega arith
decision_most (answer (on_until day)) = omega (arith, field_most day 10)
decision_most (answer (ended day)) = omega (arith, field_most day 10)
decision_most (answer (ahead day)) = omega (arith, field_most day 10)
decision_most (answer never) = omega arith
decision_most (refused n) = omega (arith, field_most n 10)

-- a text of 17 bytes has room for any line
module _ (buffer : List ℕ) (d : Answer Decision) {new : List ℕ} (room : 17 ≤ length buffer) (e : new ≡ after buffer 0 (decision_text d)) where
  pub line_whole : {n : ℕ} → written buffer 0 (decision_text d) ≡ answer n → (n ≤ length new) × (take n new ≡ decision_text d)
  line_whole w = let most = decision_most d in start_whole buffer (decision_text d) (omega arith) e w

pub line_fits : {C : Type 0} (buffer : List ℕ) (d : Answer Decision) {n : ℕ} → 17 ≤ length buffer → written buffer 0 (decision_text d) ≡ refused n → C
line_fits buffer d room w = let most = decision_most d in start_answers buffer (decision_text d) (omega arith) w
