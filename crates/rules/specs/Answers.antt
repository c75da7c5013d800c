-- What a call answers: what it found, or the number of its refusal (RULES.md, 12).
use Rattle.std.specs.Prelude.{ℕ}

pub data Answer (A : Type 0) : Type 0 where
  answer : A → Answer A
  refused : ℕ → Answer A

-- The first refusal met counts: a refusal ends what follows, and an answer is handed on to it.
abbrev pub then : {A B : Type 0} → Answer A → (A → Answer B) → Answer B
then (answer a) next = next a
then (refused n) next = refused n

-- whether an answer was given, whatever it holds
abbrev pub given : {A : Type 0} → Answer A → Answer (Unit {0})
given a = then a λ _. answer tt

-- what a call found, or what was there before where it was refused
abbrev pub or_else : {A : Type 0} → Answer A → A → A
or_else (answer new) old = new
or_else (refused n) old = old
