-- The decision by the ledger's order (RULES.md, 15): a pass and each grant stand for groups.
use Rattle.std.specs.Prelude.{ℕ, Bool, false, cond, not, ◌&&◌, ◌||◌, List, [], ◌∷◌, eqb, ltb}
use Rattle.rules.specs.Answers.{Answer, answer, refused}
use Rattle.grant.specs.Grant.{Grant}
use Rattle.matching.specs.Matching.{Window, windows}
use Rattle.renewals.specs.Dating.{Decision, dated}
use Rattle.ledger.specs.Ledger.{Ledger}

-- a feature granted to a group, with its days
pub record GroupGrant : Type 0 where
  pub feature : ℕ
  pub group : ℕ
  pub first : ℕ
  pub last : ℕ

abbrev pub days : GroupGrant → Window
days h = record { first = h.first; last = h.last }

-- 14: feature or first is 0, or last is not 0 and below first; a group's l and r are never 0
unfoldable pub group_grant_bad : GroupGrant → Bool
group_grant_bad h = eqb h.feature 0 || (eqb h.first 0 || (not (eqb h.last 0) && ltb h.last h.first))

unfoldable pub some_group_grant_bad : List GroupGrant → Bool
some_group_grant_bad [] = false
some_group_grant_bad (h ∷ hs) = group_grant_bad h || some_group_grant_bad hs

-- a grant applies when the features are equal and the pass's group ≤ the grant's group
unfoldable pub applies_by : (order : ℕ → ℕ → Bool) (feature x : ℕ) → GroupGrant → Bool
applies_by order feature x h = eqb h.feature feature && order x h.group

-- for a pass of the group x: 15 where feature or day is 0, then 14, then what the windows of the grants that apply say on the day
unfoldable pub ledger_decided : Ledger → (feature x day : ℕ) → List GroupGrant → Answer Decision
ledger_decided g feature x day hs =
    cond (eqb feature 0 || eqb day 0)
    (refused 15)
    (cond (some_group_grant_bad hs) (refused 14) (answer (dated day (windows days (applies_by g.order feature x) hs))))

-- held grants and stored ones, one for one
abbrev pub Each : (GroupGrant → Grant → Type 0) → List GroupGrant → List Grant → Type 0
Each R [] [] = Unit {0}
Each R [] (g ∷ gs) = ⊥
Each R (h ∷ hs) [] = ⊥
Each R (h ∷ hs) (g ∷ gs) = R h g × Each R hs gs
