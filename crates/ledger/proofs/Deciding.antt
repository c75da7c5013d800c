-- A decision by noted numbers and one by the ledger's order agree where the numbers compare as the order says.
use mathlib.Core.Path.{◌≡◌, refl, ap, ◌∙◌}
use mathlib.Core.Bool.{Bool, false, ◌&&◌}
use mathlib.Core.List.{List, [], ◌∷◌}
use Prim.Native.Nat.{ℕ, ◌≤◌}
use native.Mathlib.Omega.{arith}
use lib.Dec.{eqb, leb}
use borrow.Author.Tests.{ne_eqb}
use Rattle.rules.specs.Answers.{answer}
use Rattle.rules.proofs.Answers.{then_cond}
use Rattle.grant.specs.Grant.{Grant, grant, grant_bad, grants_bytes, some_bad, checked_grants}
use Rattle.matching.specs.Matching.{window, windows, applies_to}
use Rattle.renewals.specs.Dating.{dated}
use Rattle.decide.specs.Decision.{question_bad, decided}
use Rattle.grant.proofs.RoundTrip.{Fits, AllFit}
use Rattle.decide.proofs.RoundTrip.{decided_back}
use Rattle.ledger.specs.Ledger.{Ledger}
use Rattle.ledger.specs.Decisions.{GroupGrant, days, group_grant_bad, some_group_grant_bad, applies_by, ledger_decided, Each}

pub each_to : {R S : GroupGrant → Grant → Type 0} → ((h : GroupGrant) (g : Grant) → R h g → S h g) → (hs : List GroupGrant) (gs : List Grant) → Each R hs gs → Each S hs gs
each_to f [] [] e = tt
each_to f [] (g ∷ gs) e = absurd e
each_to f (h ∷ hs) [] e = absurd e
each_to f (h ∷ hs) (g ∷ gs) e = (f h g e.0, each_to f hs gs e.1)

positive : (n : ℕ) → 1 ≤ n → eqb n 0 ≡ false
positive n h = ne_eqb n 0 (λ e. omega (arith, h, e))

module _ (order : ℕ → ℕ → Bool) (x l r : ℕ) where
  -- a stored grant with the held one's feature and days, and numbers that compare as the order says
  pub record Alike (h : GroupGrant) (g : Grant) : Type 0 where
    pub stored : g ≡ grant h.feature g.l g.r h.first h.last
    pub l_some : 1 ≤ g.l
    pub r_some : 1 ≤ g.r
    pub fits : Fits g
    pub agrees : (leb l g.l && leb r g.r) ≡ order x h.group

  module _ {h : GroupGrant} {g : Grant} (a : Alike h g) where
    bad_alike : grant_bad g ≡ group_grant_bad h
    unfolding grant_bad group_grant_bad
    bad_alike = ap grant_bad a.stored ∙ rw (positive g.l a.l_some, positive g.r a.r_some)

    applies_alike : (feature : ℕ) → applies_to feature l r g ≡ applies_by order feature x h
    unfolding applies_to applies_by
    applies_alike feature = ap (applies_to feature l r) a.stored ∙ rw a.agrees

    days_alike : window g ≡ days h
    days_alike = ap window a.stored

  all_fit : (hs : List GroupGrant) (gs : List Grant) → Each Alike hs gs → AllFit gs
  all_fit [] [] e = tt
  all_fit [] (g ∷ gs) e = absurd e
  all_fit (h ∷ hs) [] e = absurd e
  all_fit (h ∷ hs) (g ∷ gs) e = (e.0.fits, all_fit hs gs e.1)

  bads_alike : (hs : List GroupGrant) (gs : List Grant) → Each Alike hs gs → some_bad gs ≡ some_group_grant_bad hs
  unfolding some_bad some_group_grant_bad
  bads_alike [] [] e = refl
  bads_alike [] (g ∷ gs) e = absurd e
  bads_alike (h ∷ hs) [] e = absurd e
  bads_alike (h ∷ hs) (g ∷ gs) e = rw (bad_alike e.0, bads_alike hs gs e.1)

  windows_alike : (feature : ℕ) (hs : List GroupGrant) (gs : List Grant) → Each Alike hs gs
      → windows window (applies_to feature l r) gs ≡ windows days (applies_by order feature x) hs
  unfolding windows
  windows_alike feature [] [] e = refl
  windows_alike feature [] (g ∷ gs) e = absurd e
  windows_alike feature (h ∷ hs) [] e = absurd e
  windows_alike feature (h ∷ hs) (g ∷ gs) e = rw (applies_alike e.0 feature, days_alike e.0, windows_alike feature hs gs e.1)

-- decide's whole answer is the ledger's
pub decided_alike : (ledger : Ledger) (x l r : ℕ) → 1 ≤ l → 1 ≤ r → (hs : List GroupGrant) (gs : List Grant) → Each (Alike ledger.order x l r) hs gs → (feature day : ℕ)
    → decided feature l r day (grants_bytes gs) ≡ ledger_decided ledger feature x day hs
unfolding question_bad checked_grants ledger_decided
decided_alike ledger x l r hl hr hs gs e feature day =
    decided_back feature l r day gs (all_fit ledger.order x l r hs gs e)
    ∙ rw (
      positive l hl,
      positive r hr,
      then_cond (some_bad gs) 14 gs (λ (t : List Grant). answer (dated day (windows window (applies_to feature l r) t))),
      bads_alike ledger.order x l r hs gs e,
      windows_alike ledger.order x l r feature hs gs e,
    )
