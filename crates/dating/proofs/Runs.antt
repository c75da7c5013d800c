-- How a closed window carries the run of days: what is known of the run, and of the windows so far, holds after it too.
use mathlib.Core.Path.{◌≡◌}
use mathlib.Core.Bool.{cond}
use mathlib.Core.Logic.{◌≢◌, ◌⊎◌, inl, inr}
use Prim.Native.Nat.{ℕ, ◌+◌, min, max, ◌<◌, ◌≤◌}
use native.Mathlib.Omega.{arith}
use lib.Dec.{ltb}
use borrow.Author.Tests.{lt-ltb, le-ltb, le-leb, lt-leb}
use Rattle.std.specs.Prelude.{Option, Some, None, IfSome, IsSomeAnd}
use Rattle.rules.proofs.Cases.{by_lt}
use Rattle.matching.specs.Matching.{Window}
use Rattle.unbroken.specs.Inside.Run.{run, earlier, follows_from, joined, with_stretch, set_aside, carry}
use Rattle.unbroken.specs.declared.Run.{Run}
use Rattle.dating.proofs.Kept.{earlier_one, earlier_day, earlier_known}

-- ## By cases on what a window does

module _ (P : Run → Type 0) (u : ℕ) (left : Option ℕ) (w : Window) where
  -- with no stretch: the window is taken into the run, or is the stretch
  pub carry_none : (w.first ≤ u + 1 → P (run (max u w.last) None left)) → (u + 1 < w.first → P (run u (Some w) left)) → P (carry (run u None left) w)
  unfolding carry with_stretch set_aside follows_from
  carry_none f g = by_lt (u + 1) w.first (λ h. rw (lt-leb _ _ h) (g h)) (λ h. rw (le-leb _ _ h) (f h))

  -- with a stretch: that is taken into the run too, or not; the window lengthens it, takes its place, or is left out
  pub carry_some : (s : Window)
      → (w.first ≤ u + 1 → s.first ≤ max u w.last + 1 → P (run (max (max u w.last) s.last) None left))
      → (w.first ≤ u + 1 → max u w.last + 1 < s.first → P (run (max u w.last) (Some s) left))
      → (u + 1 < w.first → w.first ≤ s.last + 1 → s.first ≤ w.last + 1 → P (run u (Some (joined s w)) left))
      → (u + 1 < w.first → w.first < s.first → P (run u (Some w) (Some (earlier left s.first))))
      → (u + 1 < w.first → s.first ≤ w.first → P (run u (Some s) (Some (earlier left w.first))))
      → P (carry (run u (Some s) left) w)
  unfolding carry with_stretch set_aside follows_from
  carry_some s c1 c2 c3 c4 c5 =
      by_lt (u + 1) w.first
      (λ h. rw (lt-leb _ _ h) (by_lt (s.last + 1) w.first
      (λ f. rw (lt-leb _ _ f) (apart h))
      (λ f. rw (le-leb _ _ f) (by_lt (w.last + 1) s.first
      (λ g. rw (lt-leb _ _ g) (apart h))
      (λ g. rw (le-leb _ _ g) (c3 h f g))))))
      (λ h. rw (le-leb _ _ h) (by_lt (max u w.last + 1) s.first (λ g. rw (lt-leb _ _ g) (c2 h g)) (λ g. rw (le-leb _ _ g) (c1 h g))))
    where
      apart : u + 1 < w.first → P (cond (ltb w.first s.first) (run u (Some w) (Some (earlier left s.first))) (run u (Some s) (Some (earlier left w.first))))
      apart h = by_lt w.first s.first (λ b. rw (lt-ltb _ _ b) (c4 h b)) (λ b. rw (le-ltb _ _ b) (c5 h b))

-- ## What is known of the run

-- a window w of the list is settled: it lies within the run so far, or within the stretch, or it begins no earlier than a day that is left out
abbrev pub Settled : Run → Window → Type 0
Settled r w = (w.last ≤ r.until) ⊎ IsSomeAnd r.stretch (λ s. (s.first ≤ w.first) × (w.last ≤ s.last)) ⊎ IsSomeAnd r.left (λ d. d ≤ w.first)

pub settled_by : {A : Type 0} (r : Run) (v : Window) → (v.last ≤ r.until → A) → (IsSomeAnd r.stretch (λ s. (s.first ≤ v.first) × (v.last ≤ s.last)) → A)
    → (IsSomeAnd r.left (λ d. d ≤ v.first) → A) → Settled r v → A
settled_by r v f g h (inl a) = f a
settled_by r v f g h (inr (inl b)) = g b
settled_by r v f g h (inr (inr c)) = h c

module _ (u : ℕ) (left : Option ℕ) (w : Window) where
  -- the window is settled once it is counted in, and so is every one that was
  abbrev pub CarrySettled : Option Window → Run → Type 0
  CarrySettled stretch r = Settled r w × ((v : Window) → Settled (run u stretch left) v → Settled r v)

  pub carry_settled : (stretch : Option Window) → CarrySettled stretch (carry (run u stretch left) w)
  carry_settled None =
      carry_none (CarrySettled None) u left w
      (λ h. (inl (omega arith), λ v. settled_by (run u None left) v (λ a. inl (omega arith)) (λ b. absurd b) (λ c. inr (inr c))))
      (λ h. (inr (inl (omega arith, omega arith)), λ v. settled_by (run u None left) v (λ a. inl a) (λ b. absurd b) (λ c. inr (inr c))))
  carry_settled (Some s) =
      let old = run u (Some s) left in
      carry_some (CarrySettled (Some s)) u left w s
      (λ h j. (inl (omega arith), λ v. settled_by old v (λ a. inl (omega arith)) (λ b. inl (omega (arith, b.1))) (λ c. inr (inr c))))
      (λ h j. (inl (omega arith), λ v. settled_by old v (λ a. inl (omega arith)) (λ b. inr (inl b)) (λ c. inr (inr c))))
      (λ h j k. (
        inr (inl (omega arith, omega arith)),
        λ v. settled_by old v (λ a. inl a) (λ b. inr (inl (omega (arith, b.0), omega (arith, b.1)))) (λ c. inr (inr c)),
      ))
      (λ h j. (
        inr (inl (omega arith, omega arith)),
        λ v. settled_by old v (λ a. inl a) (λ b. inr (inr (omega (arith, earlier_day left s.first, b.0)))) (λ c. inr (inr (earlier_known left s.first v.first c))),
      ))
      (λ h j. (
        inr (inr (earlier_day left w.first)),
        λ v. settled_by old v (λ a. inl a) (λ b. inr (inl b)) (λ c. inr (inr (earlier_known left w.first v.first c))),
      ))

-- C: the days that are covered; F: the first days of windows
module _ (C F : ℕ → Type 0) where
  pub record Closed (w : Window) : Type 0 where
    pub closed : w.last ≢ 0
    pub right : w.first ≤ w.last
    pub covers : (d : ℕ) → w.first ≤ d → d ≤ w.last → C d
    pub begins : F w.first

  -- a stretch begins later than the day after the run's last day u, and with a window, and its days are covered
  pub record Apart (u : ℕ) (x : Window) : Type 0 where
    pub apart : u + 1 < x.first
    pub covers : (d : ℕ) → x.first ≤ d → d ≤ x.last → C d
    pub begins : F x.first

-- a reading that began with the run known up to day s: the days of the run are covered, and the stretch lies apart from it; what was left out begins
-- with a window, later than the day after s
module _ (C F : ℕ → Type 0) (day s : ℕ) where
  abbrev pub LeftOut : ℕ → Type 0
  LeftOut d = (s + 1 < d) × F d

  pub record Fair (r : Run) : Type 0 where
    pub grown : s ≤ r.until
    pub sound : (d : ℕ) → day ≤ d → d ≤ r.until → C d
    pub stretch : IfSome r.stretch (Apart C F r.until)
    pub left : IfSome r.left LeftOut

  longer : (u : ℕ) (w : Window) → Closed C F w → ((d : ℕ) → day ≤ d → d ≤ u → C d) → w.first ≤ u + 1 → (d : ℕ) → day ≤ d → d ≤ max u w.last → C d
  longer u w c f h d a b = by_lt u d (λ l. c.covers d (omega arith) (omega arith)) (λ l. f d a l)

  -- the stretch and a window that touches it, together
  together : (u : ℕ) (x w : Window) → Closed C F w → Apart C F u x → u + 1 < w.first → w.first ≤ x.last + 1 → x.first ≤ w.last + 1 → Apart C F u (joined x w)
  together u x w c a h j k = record {
    apart = omega (arith, a.apart);
    covers = λ d b e.
        by_lt d x.first
        (λ l. c.covers d (omega arith) (omega arith))
        (λ l. by_lt x.last d (λ g. c.covers d (omega arith) (omega arith)) (λ g. a.covers d l g));
    begins = by_lt x.first w.first
        (λ l. let m : min x.first w.first ≡ x.first = omega arith in rw m a.begins)
        (λ l. let m : min x.first w.first ≡ w.first = omega arith in rw m c.begins);
  }

  pub carry_fair : (u : ℕ) (stretch : Option Window) (left : Option ℕ) (w : Window) → Closed C F w → Fair (run u stretch left) → Fair (carry (run u stretch left) w)
  carry_fair u None left w c f =
      carry_none Fair u left w
      (λ h. record { grown = omega (arith, f.grown); sound = longer u w c f.sound h; stretch = tt; left = f.left })
      (λ h. record { grown = f.grown; sound = f.sound; stretch = record { apart = h; covers = c.covers; begins = c.begins }; left = f.left })
  carry_fair u (Some x) left w c f =
      carry_some Fair u left w x
      (λ h j. record {
        grown = omega (arith, f.grown);
        sound = λ d a b. by_lt (max u w.last) d (λ l. f.stretch.covers d (omega arith) (omega arith)) (λ l. longer u w c f.sound h d a l);
        stretch = tt;
        left = f.left;
      })
      (λ h j. record {
        grown = omega (arith, f.grown);
        sound = longer u w c f.sound h;
        stretch = record { apart = j; covers = f.stretch.covers; begins = f.stretch.begins };
        left = f.left;
      })
      (λ h j k. record { grown = f.grown; sound = f.sound; stretch = together u x w c f.stretch h j k; left = f.left })
      (λ h j. record {
        grown = f.grown;
        sound = f.sound;
        stretch = record { apart = h; covers = c.covers; begins = c.begins };
        left = earlier_one LeftOut left x.first f.left (omega (arith, f.grown, f.stretch.apart), f.stretch.begins);
      })
      (λ h j. record {
        grown = f.grown;
        sound = f.sound;
        stretch = f.stretch;
        left = earlier_one LeftOut left w.first f.left (omega (arith, f.grown, h), c.begins);
      })
