-- One reading of a grant list: the windows of the grants that apply are counted in.
use Rattle.std.specs.Prelude.{ℕ, List}
use Rattle.rules.specs.Answers.{Answer, answer, then}
use Rattle.grant.specs.Grant.{grants_of}
use Rattle.matching.specs.Matching.{window, windows, applies_to}
use Rattle.dating.specs.Inside.Tally.{counted_in}
use Rattle.dating.specs.declared.Tally.{Tally}

unfoldable pub list_read : (feature l r day : ℕ) → List ℕ → Tally → Answer Tally
list_read feature l r day bytes t = then (grants_of bytes) λ gs. answer (counted_in day t (windows window (applies_to feature l r) gs))
