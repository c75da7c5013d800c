-- Drawing numbers one after another (RULES.md, 2).
use Rattle.std.specs.Prelude.{ℕ, ◌≡◌, List}
use Rattle.rules.specs.Answers.{Answer, answer, then, or_else}
use Rattle.number.specs.Number.{number_at}
use Rattle.number.specs.declared.Number.{Number}

-- the value that is drawn
abbrev pub drawn : Answer Number → Answer ℕ
drawn number = then number λ n. answer n.value

-- the place after a number; where none was drawn, the first place
abbrev pub moved : Answer Number → ℕ
moved number = or_else (then number λ n. answer n.next) 0

-- three draws from a place on, each from the place after the one before it
pub record Draws (bytes : List ℕ) (at : ℕ) (first second third : Answer ℕ) (next : ℕ) : Type 0 where
  pub p : ℕ
  pub q : ℕ
  pub first_is : first ≡ drawn (number_at bytes at)
  pub p_is : p ≡ moved (number_at bytes at)
  pub second_is : second ≡ drawn (number_at bytes p)
  pub q_is : q ≡ moved (number_at bytes p)
  pub third_is : third ≡ drawn (number_at bytes q)
  pub next_is : next ≡ moved (number_at bytes q)
