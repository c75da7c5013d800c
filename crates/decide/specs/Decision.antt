-- Decisions (RULES.md, 10), in three steps: the grants are read; the windows of those that apply, in list order;
-- then what the windows say on a day.
use Rattle.std.specs.Prelude.{ℕ, Bool, cond, ◌||◌, List, eqb, drop}
use Rattle.rules.specs.Answers.{Answer, answer, refused, then}
use Rattle.number.specs.Number.{number_at}
use Rattle.grant.specs.Grant.{grants_of}
use Rattle.matching.specs.Matching.{pass_bad, window, windows, applies_to}
use Rattle.renewals.specs.Dating.{Decision, dated}

-- 15: feature, pass l or r, or day is 0
unfoldable pub question_bad : (feature l r day : ℕ) → Bool
question_bad feature l r day = eqb feature 0 || pass_bad l r day

-- Decide: 15, then the whole list from left to right
unfoldable pub decided : (feature l r day : ℕ) → List ℕ → Answer Decision
decided feature l r day bytes =
    cond (question_bad feature l r day)
    (refused 15)
    (then (grants_of bytes) λ gs. answer (dated day (windows window (applies_to feature l r) gs)))

-- the numbers feature, l, r and day (1 or 2 for a bad one, then 15), then a grant list
unfoldable pub asked : List ℕ → Answer Decision
asked bytes =
    then (number_at bytes 0) λ feature.
    then (number_at bytes feature.next) λ l.
    then (number_at bytes l.next) λ r.
    then (number_at bytes r.next) λ day.
    decided feature.value l.value r.value day.value (drop day.next bytes)
