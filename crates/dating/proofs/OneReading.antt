-- One reading is enough where the windows come in the order of their days, and where none of them follows on.
use mathlib.Core.Path.{◌≡◌}
use mathlib.Core.Bool.{false, and-false}
use mathlib.Core.List.{List, [], ◌∷◌}
use mathlib.Core.Logic.{◌⊎◌, inl, inr}
use Prim.Native.Nat.{ℕ, ◌+◌, max, ◌<◌, ◌≤◌}
use native.Mathlib.Omega.{arith}
use borrow.Author.Tests.{eq-eqb, ne_eqb}
use Rattle.rules.proofs.Cases.{by_eq}
use Rattle.std.specs.Prelude.{Option, Some, None, IfSome}
use Rattle.matching.specs.Matching.{Window}
use Rattle.renewals.specs.Dating.{is_open}
use Rattle.unbroken.specs.Inside.Run.{run, carry}
use Rattle.unbroken.specs.declared.Run.{Run}
use Rattle.dating.specs.Readings.{readings, Enough, InOrder, NoneFollows}
use Rattle.dating.specs.Inside.Tally.{run_with, count_in, counted_in, unsettled, unread, again}
use Rattle.dating.specs.declared.Tally.{Tally}
use Rattle.dating.proofs.Kept.{if_some, earlier_one, reaches_past}
use Rattle.dating.proofs.Runs.{carry_none, carry_some}

settled : (t : Tally) → IfSome t.run.left (λ l. t.run.until + 1 < l) → unsettled t ≡ false
unfolding unsettled
settled t h = rw (reaches_past _ _ h, and-false)

-- an open window leaves the run as it is
with_open : (P : Run → Type 0) (r : Run) (w : Window) → P r → P (carry r w) → P (run_with r w)
unfolding run_with is_open
with_open P r w o c = by_eq w.last 0 (λ z. rw (eq-eqb _ _ z) o) (λ z. rw (ne_eqb _ _ z) c)

-- ## In the order of their days

-- later than the day after day u, and by day d
abbrev Still : (u d : ℕ) → ℕ → Type 0
Still u d x = (u + 1 < x) × (x ≤ d)

-- what is left out, and the stretch, begin later than the day after the run's end, and by day d
record Ordered (d : ℕ) (r : Run) : Type 0 where
  left : IfSome r.left (Still r.until d)
  stretch : IfSome r.stretch (λ s. Still r.until d s.first)

module _ (d u : ℕ) (left : Option ℕ) (w : Window) (h : d ≤ w.first) where
  still_left : (v e : ℕ) → ((x : ℕ) → Still u d x → Still v e x) → IfSome left (Still u d) → IfSome left (Still v e)
  still_left v e f o = if_some (Still u d) (Still v e) left f o

  later : (x : ℕ) → Still u d x → Still u w.first x
  later x k = (k.0, omega (arith, k.1, h))

  -- a window that follows on begins by day d, and no day of those
  none : (v e : ℕ) → w.first ≤ u + 1 → (x : ℕ) → Still u d x → Still v e x
  none v e f x k = absurd (omega (arith, f, h, k.0, k.1))

  carry_ordered : (stretch : Option Window) → Ordered d (run u stretch left) → Ordered w.first (carry (run u stretch left) w)
  carry_ordered None o =
      carry_none (Ordered w.first) u left w
      (λ f. record { left = still_left (max u w.last) w.first (none (max u w.last) w.first f) o.left; stretch = tt })
      (λ f. record { left = still_left u w.first later o.left; stretch = (f, omega arith) })
  carry_ordered (Some s) o =
      carry_some (Ordered w.first) u left w s
      (λ f j.
      let v = max (max u w.last) s.last in
      record { left = still_left v w.first (none v w.first f) o.left; stretch = tt })
      (λ f j. record { left = still_left (max u w.last) w.first (none (max u w.last) w.first f) o.left; stretch = none (max u w.last) w.first f s.first o.stretch })
      (λ f a b. record { left = still_left u w.first later o.left; stretch = (omega (arith, f, o.stretch.0), omega arith) })
      (λ f a. absurd (omega (arith, a, h, o.stretch.1)))
      (λ f a. record { left = earlier_one (Still u w.first) left w.first (still_left u w.first later o.left) (f, omega arith); stretch = later s.first o.stretch })

run_ordered : (d : ℕ) (r : Run) (w : Window) → d ≤ w.first → Ordered d r → Ordered w.first (run_with r w)
run_ordered d r w h o =
    with_open (Ordered w.first) r w
    (record {
      left = still_left d r.until r.left w h r.until w.first (later d r.until r.left w h) o.left;
      stretch = if_some (λ s. Still r.until d s.first) (λ s. Still r.until w.first s.first) r.stretch (λ s k. later d r.until r.left w h s.first k) o.stretch;
    })
    (carry_ordered d r.until r.left w h r.stretch o)

module _ (day : ℕ) where
  ordered : (d : ℕ) (t : Tally) (ws : List Window) → InOrder d ws → Ordered d t.run
      → IfSome (counted_in day t ws).run.left (λ l. (counted_in day t ws).run.until + 1 < l)
  unfolding counted_in count_in
  ordered d t [] i o = if_some (Still t.run.until d) (λ l. t.run.until + 1 < l) t.run.left (λ l k. k.0) o.left
  ordered d t (w ∷ ws) i o = ordered w.first (count_in day t w) ws i.1 (run_ordered d t.run w i.0 o)

  -- windows that come in the order of their days are read once
  pub one_in_order : (ws : List Window) → InOrder 0 ws → Enough 1 day ws
  unfolding readings again unread
  one_in_order ws i = settled _ (ordered 0 (again (unread day)) ws i (record { left = tt; stretch = tt }))

-- ## Where nothing follows on

-- the run ends by day u, and what is left out, and the stretch, begin later than the day after that
record Alone (day u : ℕ) (r : Run) : Type 0 where
  near : day ≤ r.until + 1
  within : r.until ≤ u
  left : IfSome r.left (λ l. u + 1 < l)
  stretch : IfSome r.stretch (λ s. u + 1 < s.first)

module _ (day u : ℕ) (w : Window) (e : ((w.first ≤ day) × (w.last ≤ u)) ⊎ (u + 1 < w.first)) where
  -- a window that follows on ends by day u; another one begins later
  inside : {r : Run} → Alone day u r → w.first ≤ r.until + 1 → w.last ≤ u
  inside o f = go e
    where
      go : ((w.first ≤ day) × (w.last ≤ u)) ⊎ (u + 1 < w.first) → w.last ≤ u
      go (inl k) = k.1
      go (inr k) = absurd (omega (arith, f, k, o.within))

  outside : {r : Run} → Alone day u r → r.until + 1 < w.first → u + 1 < w.first
  outside o f = go e
    where
      go : ((w.first ≤ day) × (w.last ≤ u)) ⊎ (u + 1 < w.first) → u + 1 < w.first
      go (inl k) = absurd (omega (arith, f, k.0, o.near))
      go (inr k) = k

  carry_alone : (v : ℕ) (stretch : Option Window) (left : Option ℕ) → Alone day u (run v stretch left) → Alone day u (carry (run v stretch left) w)
  carry_alone v None left o =
      carry_none (Alone day u) v left w
      (λ f. record { near = omega (arith, o.near); within = omega (arith, inside o f, o.within); left = o.left; stretch = tt })
      (λ f. record { near = o.near; within = o.within; left = o.left; stretch = outside o f })
  carry_alone v (Some s) left o =
      carry_some (Alone day u) v left w s
      (λ f j. absurd (omega (arith, j, inside o f, o.within, o.stretch)))
      (λ f j. record { near = omega (arith, o.near); within = omega (arith, inside o f, o.within); left = o.left; stretch = o.stretch })
      (λ f a b. record { near = o.near; within = o.within; left = o.left; stretch = omega (arith, outside o f, o.stretch) })
      (λ f a. record { near = o.near; within = o.within; left = earlier_one (λ (x : ℕ). u + 1 < x) left s.first o.left o.stretch; stretch = outside o f })
      (λ f a. record { near = o.near; within = o.within; left = earlier_one (λ (x : ℕ). u + 1 < x) left w.first o.left (outside o f); stretch = o.stretch })

  run_alone : (r : Run) → Alone day u r → Alone day u (run_with r w)
  run_alone r o = with_open (Alone day u) r w o (carry_alone r.until r.stretch r.left o)

module _ (day u : ℕ) where
  alone : (t : Tally) (ws : List Window) → NoneFollows day u ws → Alone day u t.run → Alone day u (counted_in day t ws).run
  unfolding counted_in count_in
  alone t [] n o = o
  alone t (w ∷ ws) n o = alone (count_in day t w) ws n.1 (run_alone day u w n.0 t.run o)

  -- windows of which none follows on are read once
  pub one_alone : (ws : List Window) → day ≤ u + 1 → NoneFollows day u ws → Enough 1 day ws
  unfolding readings again unread
  one_alone ws h n =
      let o = alone (again (unread day)) ws n (record { near = omega arith; within = omega arith; left = tt; stretch = tt }) in
      let r = (counted_in day (again (unread day)) ws).run in
      settled _ (if_some (λ l. u + 1 < l) (λ l. r.until + 1 < l) r.left (λ l k. omega (arith, o.within, k)) o.left)
