-- What a call's `Result` says: what it found, or the number of its refusal (RULES.md, 12).
use Rattle.std.specs.Prelude.{Result, Ok, Err}
use Rattle.rules.specs.Answers.{Answer, answer, refused}
use Rattle.rules.specs.Refusals.{refusal_number}
use Rattle.rules.specs.declared.Refusal.{Refusal}

abbrev pub says : {A : Type 0} → Result A Refusal → Answer A
says (Ok a) = answer a
says (Err why) = refused (refusal_number why)
