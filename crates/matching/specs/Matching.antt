-- Which grants apply, and their days (RULES.md, 9). What "applies" means is a parameter of `windows`, so that a
-- pass's numbers and the ledger's order share it.
use Rattle.std.specs.Prelude.{ℕ, Bool, cond, ◌&&◌, ◌||◌, List, [], ◌∷◌, eqb, leb}
use Rattle.grant.specs.Grant.{Grant}
use Rattle.coordinates.specs.Coordinates.{l_value, r_value}
use Rattle.matching.specs.declared.Pass.{Pass}
use Rattle.matching.specs.declared.Window as code

-- 15, without a feature: pass l or r, or day is 0
abbrev pub pass_bad : (l r day : ℕ) → Bool
pass_bad l r day = eqb l 0 || (eqb r 0 || eqb day 0)

-- a pass of two numbers
abbrev pub pass : (l r : ℕ) → Pass
pass l r = record { l = l_value l; r = r_value r }

-- a grant covers a pass (l, r), whatever its feature, when pass l ≤ grant l and pass r ≤ grant r
abbrev pub covers : (l r : ℕ) → Grant → Bool
covers l r g = leb l g.l && leb r g.r

-- a grant applies to a pass (l, r) and feature when the features are equal and it covers the pass
unfoldable pub applies_to : (feature l r : ℕ) → Grant → Bool
applies_to feature l r g = eqb g.feature feature && covers l r g

-- the days of a grant
abbrev pub Window : Type 0
Window = code.Window

abbrev pub window : Grant → Window
window g = record { first = g.first; last = g.last }

-- the days of those that apply, in list order
unfoldable pub windows : {A : Type 0} → (days : A → Window) (applies : A → Bool) → List A → List Window
windows days applies [] = []
windows days applies (g ∷ gs) = cond (applies g) (days g ∷ windows days applies gs) (windows days applies gs)
