-- The windows of grants that are not bad.
use mathlib.Core.Path.{◌≡◌}
use mathlib.Core.Bool.{Bool, true, false, cond}
use mathlib.Core.List.{List, [], ◌∷◌}
use Prim.Native.Nat.{◌≤◌}
use native.Mathlib.Omega.{arith}
use lib.Dec.{eqb}
use borrow.Author.Tests.{ne_eqb, eqb-false, ltb-false}
use Rattle.rules.proofs.Bools.{or_none}
use Rattle.grant.specs.Grant.{Grant, grant_bad, some_bad}
use Rattle.matching.specs.Matching.{Window, window, windows}

-- a window that begins on day 1 or later, and is open or ends no earlier than it begins
pub record Right (w : Window) : Type 0 where
  pub begins : 1 ≤ w.first
  pub ends : (w.last ≡ 0 → ⊥) → w.first ≤ w.last

abbrev pub AllRight : List Window → Type 0
AllRight [] = Unit {0}
AllRight (w ∷ ws) = Right w × AllRight ws

bad_right : (g : Grant) → grant_bad g ≡ false → Right (window g)
unfolding grant_bad
bad_right g e =
    let a = or_none (eqb g.feature 0) _ e in
    let b = or_none (eqb g.l 0) _ a.1 in
    let c = or_none (eqb g.r 0) _ b.1 in
    let d = or_none (eqb g.first 0) _ c.1 in
    let f = eqb-false g.first 0 d.0 in
    record { begins = omega (arith, f); ends = λ z. ltb-false _ _ (rw (ne_eqb _ _ z) at d.1) }

pub windows_right : (applies : Grant → Bool) (gs : List Grant) → some_bad gs ≡ false → AllRight (windows window applies gs)
unfolding windows some_bad
windows_right applies [] e = tt
windows_right applies (g ∷ gs) e = let h = or_none (grant_bad g) (some_bad gs) e in go (applies g) (bad_right g h.0) (windows_right applies gs h.1)
  where
    go : (b : Bool) → Right (window g) → AllRight (windows window applies gs) → AllRight (cond b (window g ∷ windows window applies gs) (windows window applies gs))
    go true one rest = (one, rest)
    go false one rest = rest
