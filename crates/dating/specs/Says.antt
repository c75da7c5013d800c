-- What each case of the decision says (RULES.md, 10), and what a call that decides says.
use Rattle.std.specs.Prelude.{Result}
use Rattle.rules.specs.Answers.{Answer, answer, then}
use Rattle.rules.specs.Says.{says}
use Rattle.rules.specs.declared.Refusal.{Refusal}
use Rattle.renewals.specs.Dating.{Decision, on_open, on_until, ended, ahead, never}
use Rattle.dating.specs.declared.Decided.{Decided}
use Rattle.dating.specs.declared.Decided.TheVariants as decided

abbrev pub decision_says : Decided → Decision
decision_says decided.OnOpen = on_open
decision_says (decided.OnUntil day) = on_until day
decision_says (decided.Ended day) = ended day
decision_says (decided.Ahead day) = ahead day
decision_says decided.Never = never

abbrev pub decided_says : Result Decided Refusal → Answer Decision
decided_says result = then (says result) λ decided. answer (decision_says decided)
