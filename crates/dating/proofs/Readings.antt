-- Readings of the windows one after another: each lessens what is left out, and in the end the tally says what the windows do.
use mathlib.Core.Path.{◌≡◌, refl, ap, sym, ◌∙◌}
use mathlib.Core.Bool.{Bool, true, false, not}
use mathlib.Core.List.{List, [], ◌∷◌}
use Prim.Native.Nat.{ℕ, suc, ◌+◌, ◌-◌, ◌<◌, ◌≤◌}
use native.Mathlib.Omega.{arith}
use borrow.Author.Tests.{le-leb, lt-leb}
use Rattle.rules.proofs.Cases.{by_lt, by_eq}
use Rattle.rules.proofs.Bools.{and_both}
use Rattle.std.specs.Prelude.{Option, None, IfSome, IsSomeAnd}
use Rattle.matching.specs.Matching.{Window}
use Rattle.matching.proofs.Windows.{AllRight}
use Rattle.renewals.specs.Dating.{has_ended, yet_to_begin, those, runs, dated}
use Rattle.renewals.specs.Renewals.{some_runs, LastDay, Unending}
use Rattle.renewals.proofs.Days.{not_begun, not_after}
use Rattle.renewals.proofs.Later.{First, later}
use Rattle.renewals.proofs.Renewals.{last_dated_lem, open_dated, idle_dated}
use Rattle.unbroken.specs.Inside.Run.{follows_from, reaches}
use Rattle.dating.specs.Inside.Tally.{counted_in, endless, unsettled, unread, again, kept, decision_of}
use Rattle.dating.specs.declared.Tally.{Tally}
use Rattle.dating.proofs.Idle.{last_of, soonest, counted_over, counted_coming, idle_kept}
use Rattle.dating.proofs.Kept.{with_some, if_some, reaches_true, reaches_false}
use Rattle.dating.proofs.Runs.{Apart, LeftOut, settled_by}
use Rattle.dating.proofs.Tallies.{Every, Seen, members, whole}

module _ (ws : List Window) (day : ℕ) where
  -- the run so far: its days are covered, it reaches the day before today at least, and from an open window's first day on all are covered
  pub record Known (t : Tally) : Type 0 where
    pub sound : (d : ℕ) → day ≤ d → d ≤ t.run.until → some_runs d ws ≡ true
    pub near : day ≤ t.run.until + 1
    pub endlessly : IfSome t.open_from (λ o. (d : ℕ) → o ≤ d → some_runs d ws ≡ true)

  -- before a reading: where the run has not begun, nothing was counted in yet
  pub record Before (t : Tally) : Type 0 where
    pub known : Known t
    pub idle : t.run.until < day → (t.over ≡ None) × (t.coming ≡ None)

  -- after it: all windows were counted in
  pub record After (t : Tally) : Type 0 where
    pub known : Known t
    pub idle : t.run.until < day → (t.over ≡ last_of None (those (has_ended day) ws)) × (t.coming ≡ soonest None (those (yet_to_begin day) ws))
    pub apart : IfSome t.run.stretch (λ s. t.run.until + 1 < s.first)
    pub ahead : IfSome t.run.left (λ l. day < l)
    pub seen : Every (Seen ws t.run t.open_from) ws

  -- another reading is asked for: a day that was left out is reached, and no open window is
  unsettled_left : (t : Tally) → unsettled t ≡ true → IsSomeAnd t.run.left (λ l. l ≤ t.run.until + 1)
  unfolding unsettled
  unsettled_left t e = reaches_true _ _ (and_both (not (endless t)) _ e).1

  pub before_unread : 1 ≤ day → Before (unread day)
  unfolding unread
  before_unread h =
      record {
        known = record { sound = λ d a b. absurd (omega (arith, h, a, b)); near = omega arith; endlessly = tt };
        idle = λ _. (refl, refl);
      }

  pub unread_unsettled : 1 ≤ day → unsettled (unread day) ≡ true
  unfolding unread unsettled endless reaches follows_from
  unread_unsettled h = le-leb day (day - 1 + 1) (omega arith)

  pub before_again : (t : Tally) → After t → unsettled t ≡ true → Before t
  before_again t a e =
      let l = unsettled_left t e in
      record { known = a.known; idle = λ h. with_some (λ d. d ≤ t.run.until + 1) (λ d. day < d) t.run.left l a.ahead (λ d x y. absurd (omega (arith, h, x, y))) }

  -- where no other reading is asked for, no window runs on the day after the run's end
  module _ (t : Tally) (settled : unsettled t ≡ false) (closed : endless t ≡ false) where
    open_beyond : IfSome t.open_from (λ o. t.run.until + 1 < o)
    unfolding endless
    open_beyond = reaches_false _ _ closed

    left_beyond : IfSome t.run.left (λ l. t.run.until + 1 < l)
    unfolding unsettled
    left_beyond = reaches_false _ _ (rw closed at settled)

    beyond : After t → (w : Window) → Seen ws t.run t.open_from w → runs (suc t.run.until) w ≡ false
    beyond a w s =
        by_eq w.last 0
        (λ z. with_some (λ o. o ≤ w.first) (λ o. t.run.until + 1 < o) t.open_from (s.0 z) open_beyond (λ o k l. not_begun _ w (omega (arith, k, l))))
        (λ z. settled_by t.run w
        (λ l. not_after _ w z (omega arith))
        (λ b. with_some (λ x. (x.first ≤ w.first) × (w.last ≤ x.last)) (λ x. t.run.until + 1 < x.first) t.run.stretch b a.apart (λ x k l. not_begun _ w (omega (arith, k.0, l))))
        (λ b. with_some (λ d. d ≤ w.first) (λ d. t.run.until + 1 < d) t.run.left b left_beyond (λ d k l. not_begun _ w (omega (arith, k, l))))
        (s.1 z))

    all_beyond : After t → (vs : List Window) → Every (Seen ws t.run t.open_from) vs → some_runs (suc t.run.until) vs ≡ false
    unfolding some_runs
    all_beyond a [] e = refl
    all_beyond a (w ∷ vs) e = rw (beyond a w e.0) (all_beyond a vs e.1)

    last_day : After t → day ≤ t.run.until → LastDay ws day t.run.until
    last_day a h = record { begins = h; unbroken = a.known.sound; ends = all_beyond a ws a.seen }

    none_today : After t → t.run.until < day → some_runs day ws ≡ false
    none_today a h = let e : day ≡ suc t.run.until = omega (arith, h, a.known.near) in ap (λ (d : ℕ). some_runs d ws) e ∙ all_beyond a ws a.seen

  unending : (t : Tally) → After t → endless t ≡ true → Unending ws day
  unfolding endless
  unending t a e d h =
      by_lt t.run.until d
      (λ l. with_some (λ o. o ≤ t.run.until + 1) (λ o. (x : ℕ) → o ≤ x → some_runs x ws ≡ true) t.open_from (reaches_true t.run.until t.open_from e) a.known.endlessly
      (λ o k all. all d (omega (arith, k, l))))
      (λ l. a.known.sound d h l)

  idly : (t : Tally) → After t → unsettled t ≡ false → endless t ≡ false → t.run.until < day → kept t.over t.coming ≡ dated day ws
  idly t a u e h = let i = a.idle h in rw (i.0, i.1) (idle_kept (those (has_ended day) ws) (those (yet_to_begin day) ws)) ∙ sym (idle_dated ws day (none_today t u e a h))

  -- the tally says what the windows do
  pub tally_dated : (t : Tally) → After t → unsettled t ≡ false → decision_of day t ≡ dated day ws
  unfolding decision_of
  tally_dated t a u = go (endless t) refl
    where
      go : (b : Bool) → endless t ≡ b → decision_of day t ≡ dated day ws
      go true e = rw e (sym (open_dated ws day (unending t a e)))
      go false e =
          rw e (by_lt t.run.until day
          (λ h. rw (lt-leb _ _ h) (idly t a u e h))
          (λ h. rw (le-leb _ _ h) (sym (last_dated_lem ws day t.run.until (last_day t u e a h)))))

  module _ (right : AllRight ws) where
    -- a reading: what holds after it, and what it lessens
    pub reading : (t : Tally) → Before t
        → After (counted_in day (again t) ws) × (unsettled (counted_in day (again t) ws) ≡ true → later ((counted_in day (again t) ws).run.until + 1) ws < later (t.run.until + 1) ws)
    unfolding again
    reading t b =
        let m = members ws ws right (λ d e. e) (λ f h. h) in
        let w =
        whole ws day t.run.until (again t) ws m
        (record {
          fair = record {
            grown = omega arith;
            sound = b.known.sound;
            stretch = tt;
            left = tt;
          };
          endlessly = b.known.endlessly;
        }) in
        let f = w.good.fair in
        let n = counted_in day (again t) ws in
        let left_out = LeftOut (λ d. some_runs d ws ≡ true) (First ws) day t.run.until in (
          record {
            known = record { sound = f.sound; near = omega (arith, b.known.near, f.grown); endlessly = w.good.endlessly };
            idle = λ h.
                let i = b.idle (omega (arith, h, f.grown)) in (
                  counted_over day (again t) ws ∙ ap (λ (k : Option ℕ). last_of k (those (has_ended day) ws)) i.0,
                  counted_coming day (again t) ws ∙ ap (λ (k : Option ℕ). soonest k (those (yet_to_begin day) ws)) i.1,
                );
            apart = if_some (Apart (λ d. some_runs d ws ≡ true) (First ws) n.run.until) (λ x. n.run.until + 1 < x.first) n.run.stretch (λ x k. k.apart) f.stretch;
            ahead = if_some left_out (λ l. day < l) n.run.left (λ l k. omega (arith, b.known.near, k.0)) f.left;
            seen = w.seen;
          },
          λ e. with_some (λ l. l ≤ n.run.until + 1) left_out n.run.left (unsettled_left n e) f.left (λ l k o. o.1 (t.run.until + 1) (n.run.until + 1) o.0 k),
        )
