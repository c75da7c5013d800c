-- What is decided on the bytes of grants.
use mathlib.Core.Path.{◌≡◌}
use mathlib.Core.Bool.{cond}
use mathlib.Core.List.{List}
use Prim.Native.Nat.{ℕ}
use Rattle.rules.specs.Answers.{answer, refused, then}
use Rattle.grant.specs.Grant.{Grant, grants_bytes, checked_grants}
use Rattle.grant.proofs.RoundTrip.{AllFit, grants_back}
use Rattle.matching.specs.Matching.{window, windows, applies_to}
use Rattle.renewals.specs.Dating.{dated}
use Rattle.decide.specs.Decision.{question_bad, decided}

-- 15, then 14, then what the windows of those that apply say
pub decided_back : (feature l r day : ℕ) (gs : List Grant) → AllFit gs
    → decided feature l r day (grants_bytes gs)
    ≡ cond (question_bad feature l r day) (refused 15) (then (checked_grants gs) (λ (t : List Grant). answer (dated day (windows window (applies_to feature l r) t))))
unfolding decided
decided_back feature l r day gs f = rw (grants_back gs f)
