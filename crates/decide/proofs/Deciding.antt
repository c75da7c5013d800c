-- Readings of a grant list in bytes: what holds between two of them, what each lessens, and what is decided in the end.
use mathlib.Core.Path.{◌≡◌, refl, ap, sym, subst, ◌∙◌}
use mathlib.Core.Bool.{true, false, true≢false}
use mathlib.Core.List.{List, []}
use mathlib.Core.Logic.{◌⊎◌, inl, inr}
use Prim.Native.Nat.{ℕ, ◌<◌, ◌≤◌}
use native.Mathlib.Omega.{arith}
use lib.Dec.{eqb}
use lib.ListN.{length}
use borrow.Author.Tests.{eqb-false}
use Rattle.rules.specs.Answers.{Answer, answer, refused, or_else}
use Rattle.rules.proofs.Answers.{same_answer, then_answer, then_refused}
use Rattle.rules.proofs.Bools.{or_none}
use Rattle.number.specs.Number.{number_at}
use Rattle.number.specs.declared.Number.{Number}
use Rattle.number.proofs.Laws.{number_ends}
use Rattle.reader.specs.Drawing.{moved}
use Rattle.grant.specs.Grant.{Grant, grants_of}
use Rattle.grant.proofs.Listing.{grants_good}
use Rattle.matching.specs.Matching.{Window, window, windows, applies_to}
use Rattle.matching.proofs.Windows.{AllRight, windows_right}
use Rattle.decide.specs.Decision.{question_bad, decided}
use Rattle.dating.specs.Inside.Tally.{counted_in, unsettled, unread, again, decision_of}
use Rattle.decide.specs.Inside.ListReading.{list_read}
use Rattle.dating.specs.declared.Tally.{Tally}
use Rattle.dating.proofs.FewReadings.{to_come, fewer_to_come}
use Rattle.dating.proofs.Readings.{Before, After, before_unread, unread_unsettled, before_again, reading, tally_dated}

past_15 : (feature l r day : ℕ) → question_bad feature l r day ≡ false → 1 ≤ day
unfolding question_bad
past_15 feature l r day e =
    let a = or_none (eqb feature 0) _ e in
    let b = or_none (eqb l 0) _ a.1 in
    let c = or_none (eqb r 0) _ b.1 in
    let z = eqb-false day 0 c.1 in
    omega (arith, z)

-- a place that a draw moves on to lies within the bytes
pub draw_within : {bytes drawn_from : List ℕ} {place : ℕ} (at : ℕ) → drawn_from ≡ bytes → place ≡ moved (number_at drawn_from at) → place ≤ length bytes
draw_within {drawn_from = drawn_from} at e m = rw (m, ← e) (go (number_at drawn_from at) refl)
  where
    go : (number : Answer Number) → number ≡ number_at drawn_from at → moved number ≤ length drawn_from
    go (answer n) h = (number_ends drawn_from at (sym h)).1
    go (refused why) h = omega arith

module _ (feature l r day : ℕ) (bytes : List ℕ) where
  -- the windows of the grants that apply
  abbrev pub applying : List Window
  applying = windows window (applies_to feature l r) (or_else (grants_of bytes) [])

  -- between two readings: none was made yet, or the list reads in and the tally is that after a reading
  pub record Between (t : Tally) : Type 0 where
    pub asked : question_bad feature l r day ≡ false
    pub made : (t ≡ unread day) ⊎ ((gs : List Grant) × (grants_of bytes ≡ answer gs) × After applying day t)

  before : (t : Tally) → Between t → unsettled t ≡ true → Before applying day t
  before t b u = go b.made
    where
      go : (t ≡ unread day) ⊎ ((gs : List Grant) × (grants_of bytes ≡ answer gs) × After applying day t) → Before applying day t
      go (inl e) = subst (Before applying day) (sym e) (before_unread applying day (past_15 feature l r day b.asked))
      go (inr a) = before_again applying day t a.2 u

  -- a reading
  pub read_on : (t s : Tally) → Between t → unsettled t ≡ true → list_read feature l r day bytes (again t) ≡ answer s → Between s × (to_come applying s < to_come applying t)
  unfolding list_read
  read_on t s b u e =
      let a = then_answer (grants_of bytes) _ e in
      let same : Answer (List Grant) → Tally = λ g. counted_in day (again t) (windows window (applies_to feature l r) (or_else g [])) in
      let n : s ≡ counted_in day (again t) applying = sym (same_answer a.2) ∙ ap same (sym a.1) in
      let right : AllRight applying = rw a.1 (windows_right (applies_to feature l r) a.0 (grants_good bytes a.1)) in
      let k = reading applying day right t (before t b u) in
      (record { asked = b.asked; made = inr (a.0, a.1, rw n k.0) }, rw (u, n) (fewer_to_come applying t _ k.1))

  pub read_refused : (t : Tally) {n : ℕ} → question_bad feature l r day ≡ false → list_read feature l r day bytes t ≡ refused n → refused n ≡ decided feature l r day bytes
  unfolding list_read decided
  read_refused t q e = rw (q, then_refused (grants_of bytes) _ e)

  -- the end
  pub read_through : (t : Tally) → Between t → unsettled t ≡ false → answer (decision_of day t) ≡ decided feature l r day bytes
  unfolding decided
  read_through t b u = go b.made
    where
      go : (t ≡ unread day) ⊎ ((gs : List Grant) × (grants_of bytes ≡ answer gs) × After applying day t) → answer (decision_of day t) ≡ decided feature l r day bytes
      go (inl e) = absurd (true≢false (sym (unread_unsettled applying day (past_15 feature l r day b.asked)) ∙ ap unsettled (sym e) ∙ u))
      go (inr a) = ap answer (tally_dated applying day t a.2 u) ∙ rw (b.asked, a.1)
