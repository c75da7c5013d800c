-- "On" carries what the days say: the quick way of `dated` is the sentence of specs/Renewals.antt.
use mathlib.Core.Path.{◌≡◌, refl, ap, sym, subst, ◌∙◌}
use mathlib.Core.Bool.{Bool, true, false, cond, ◌||◌, or-true, and-false, true≢false}
use mathlib.Core.List.{List, [], ◌∷◌}
use Prim.Native.Nat.{ℕ, zero, suc, ◌+◌, ◌<◌, ◌≤◌}
use native.Mathlib.Omega.{arith}
use lib.Dec.{leb}
use lib.ListN.{length}
use borrow.Author.Tests.{leb-true, le-leb, lt-leb}
use Rattle.rules.proofs.Cases.{by_lt}
use Rattle.rules.proofs.Bools.{or_none}
use Rattle.matching.specs.Matching.{Window}
use Rattle.renewals.specs.Dating.{is_open, runs, has_ended, yet_to_begin, those, some_open, greatest_last, Decision, on_open, on_until, ended, ahead, never, not_on, prolonged, run_from, dated}
use Rattle.renewals.specs.Renewals.{some_runs, Unbroken, LastDay, MeetsOpen, Unending, FollowsOn}
use Rattle.renewals.proofs.Counting.{count, how_many, count_least, no_more_lem, at_most_all}
use Rattle.renewals.proofs.Days.{not_over, runs_on, none_runs}
use Rattle.renewals.proofs.Running.{Running, on, off, running, uncovered, endless_on, greatest_least, reached}

-- ## The windows that remain

-- it has not ended before day d
unfoldable stays : ℕ → Window → Bool
stays d w = is_open w || leb d w.last

-- how many have not ended before day d
abbrev remaining : ℕ → List Window → ℕ
remaining d ws = how_many (stays d) ws

stays_before : (d e : ℕ) (w : Window) → d ≤ e → stays e w ≡ true → stays d w ≡ true
unfolding stays
stays_before d e w h = go (is_open w)
  where
    go : (b : Bool) → (b || leb e w.last) ≡ true → (b || leb d w.last) ≡ true
    go true p = refl
    go false p = le-leb d w.last (omega (arith, leb-true e w.last p))

remaining_before : (d e : ℕ) (ws : List Window) → d ≤ e → remaining e ws ≤ remaining d ws
remaining_before d e ws h = no_more_lem (stays e) (stays d) (λ w. stays_before d e w h) ws

remaining_none : (d : ℕ) (ws : List Window) → remaining d ws ≤ 0 → some_runs d ws ≡ false
unfolding how_many count some_runs runs stays
remaining_none d [] h = refl
remaining_none d (w ∷ ws) h = go (stays d w) refl h (remaining_none d ws)
  where
    go : (b : Bool) → stays d w ≡ b → count b + remaining d ws ≤ 0 → (remaining d ws ≤ 0 → some_runs d ws ≡ false) → some_runs d (w ∷ ws) ≡ false
    go true e k rest = absurd (omega arith)
    go false e k rest = rw (e, and-false) (rest (omega arith))

-- the days from d to g are unbroken, and after them fewer windows remain
record Step (ws : List Window) (d g : ℕ) : Type 0 where
  reaches : d ≤ g
  unbroken : Unbroken ws d g
  fewer : remaining (suc g) ws < remaining d ws

-- where none of those that run on day d is open, they carry the run to the greatest of their last days
step : (d : ℕ) {ws rs : List Window} {v : Window} → Running d ws (v ∷ rs) → some_open (v ∷ rs) ≡ false → Step ws d (greatest_last v.last rs)
unfolding how_many count stays some_open some_runs
step d {rs = rs} {v} (off {w} {ws} e rest) o =
    let s = step d rest o in
    let g = greatest_last v.last rs in
    record {
      reaches = s.reaches;
      unbroken = λ x h k. rw (s.unbroken x h k) (or-true (runs x w));
      fewer = omega (arith, count_least (stays (suc g) w) (stays d w) (stays_before d (suc g) w (omega arith)));
    }
step d (on {w} {ws} {rs} e rest) o =
    let p = or_none (is_open w) (some_open rs) o in
    let l = not_over d w e p.0 in
    let k = greatest_least w.last rs in
    let g = greatest_last w.last rs in
    record {
      reaches = omega arith;
      unbroken = λ x h y. by_lt w.last x (λ i. rw (reached d x w.last rest p.1 h y i) (or-true (runs x w))) (λ i. rw (runs_on d x w e p.0 h i));
      fewer = rw (p.0, lt-leb (suc g) w.last (omega arith), le-leb d w.last l) (omega (arith, remaining_before d (suc g) ws (omega arith)));
    }

-- ## The run of days

-- what a decision says of the run that begins with day t
abbrev Ends : List Window → ℕ → Decision → Type 0
Ends ws t on_open = MeetsOpen ws t
Ends ws t (on_until u) = LastDay ws t u
Ends ws t (ended u) = some_runs t ws ≡ false
Ends ws t (ahead u) = some_runs t ws ≡ false
Ends ws t never = some_runs t ws ≡ false

-- the run is known up to the day before d: it ends there, or is carried by those that run on day d
module _ (ws : List Window) (t d : ℕ) (none : Decision) (further : ℕ → Decision) (from : t ≤ d) (known : (x : ℕ) → t ≤ x → x < d → some_runs x ws ≡ true) where
  carried : (some_runs d ws ≡ false → Ends ws t none) → ((g : ℕ) → t ≤ g → Unbroken ws t g → remaining (suc g) ws < remaining d ws → Ends ws t (further g))
      → Ends ws t (prolonged (those (runs d) ws) none further)
  unfolding prolonged
  carried stops goes = go (those (runs d) ws) refl (running d ws)
    where
      go : (rs : List Window) → those (runs d) ws ≡ rs → Running d ws rs → Ends ws t (prolonged rs none further)
      go [] e all = stops (uncovered d all)
      go (v ∷ rs) e all = say (some_open (v ∷ rs)) refl
        where
          say : (b : Bool) → some_open (v ∷ rs) ≡ b → Ends ws t (cond b on_open (further (greatest_last v.last rs)))
          say true o = record { day = d; begins = from; unbroken = λ x h k. by_lt x d (known x h) (endless_on d all o x); met = ap some_open e ∙ o }
          say false o =
              let s = step d all o in
              goes (greatest_last v.last rs) (omega arith) (λ x h k. by_lt x d (known x h) (λ l. s.unbroken x l k)) s.fewer

-- where no more windows remain than the count, it does not stop the run
ends_from : (most : ℕ) (ws : List Window) (t u : ℕ) → t ≤ u → Unbroken ws t u → remaining (suc u) ws ≤ most → Ends ws t (run_from most ws u)
unfolding run_from
ends_from zero ws t u from known h = record { begins = from; unbroken = known; ends = remaining_none (suc u) ws h }
ends_from (suc most) ws t u from known h =
    carried ws t (suc u) (on_until u) (run_from most ws) (omega arith) (λ x y k. known x y (omega arith))
    (λ e. record { begins = from; unbroken = known; ends = e })
    (λ g y all fewer. ends_from most ws t g y all (omega arith))

not_on_lem : (ws : List Window) (t : ℕ) (over coming : List Window) → some_runs t ws ≡ false → Ends ws t (not_on over coming)
unfolding not_on
not_on_lem ws t (w ∷ over) coming e = e
not_on_lem ws t [] (w ∷ coming) e = e
not_on_lem ws t [] [] e = e

ends_dated : (ws : List Window) (t : ℕ) → Ends ws t (dated t ws)
unfolding dated
ends_dated ws t =
    carried ws t t _ (run_from (length ws) ws) (omega arith) (λ x h k. absurd (omega arith)) (not_on_lem ws t (those (has_ended t) ws) (those (yet_to_begin t) ws))
    (λ g h all fewer. ends_from (length ws) ws t g h all (at_most_all (stays (suc g)) ws))

-- ## Both ways

-- a day is not both covered and uncovered
both : {C : Type 0} (d : ℕ) (ws : List Window) → some_runs d ws ≡ true → some_runs d ws ≡ false → C
both d ws e f = absurd (true≢false (sym e ∙ f))

unends : (ws : List Window) (t : ℕ) → MeetsOpen ws t → Unending ws t
unends ws t m x h = by_lt x m.day (λ k. m.unbroken x h (omega arith)) (endless_on m.day (running m.day ws) m.met x)

-- an unbroken run is within the last day
within : (ws : List Window) (t u x : ℕ) → LastDay ws t u → Unbroken ws t x → x ≤ u
within ws t u x l b = by_lt u x (λ h. both (suc u) ws (b (suc u) (omega arith) (omega arith)) l.ends) (λ h. h)

-- where day t is covered, the decision is "on"
by_on : {y : Decision} (ws : List Window) (t : ℕ) → some_runs t ws ≡ true → (MeetsOpen ws t → on_open ≡ y) → ((u : ℕ) → LastDay ws t u → on_until u ≡ y) → dated t ws ≡ y
by_on {y} ws t now meets until = go (dated t ws) (ends_dated ws t)
  where
    go : (x : Decision) → Ends ws t x → x ≡ y
    go on_open m = meets m
    go (on_until u) l = until u l
    go (ended u) e = both t ws now e
    go (ahead u) e = both t ws now e
    go never e = both t ws now e

pub last_dated_lem : (ws : List Window) (t u : ℕ) → LastDay ws t u → dated t ws ≡ on_until u
last_dated_lem ws t u l =
    by_on ws t (l.unbroken t (omega arith) l.begins) (λ m. both (suc u) ws (unends ws t m (suc u) (omega arith)) l.ends)
    (λ v m. ap on_until (omega (arith, within ws t u v l m.unbroken, within ws t v u m l.unbroken)))

pub open_dated : (ws : List Window) (t : ℕ) → Unending ws t → dated t ws ≡ on_open
open_dated ws t all = by_on ws t (all t (omega arith)) (λ m. refl) (λ v m. both (suc v) ws (all (suc v) (omega arith)) m.ends)

pub idle_dated : (ws : List Window) (t : ℕ) → some_runs t ws ≡ false → dated t ws ≡ not_on (those (has_ended t) ws) (those (yet_to_begin t) ws)
unfolding dated prolonged
idle_dated ws t e = rw (none_runs t ws e)

pub follows_on : (ws : List Window) (t : ℕ) → FollowsOn ws t
follows_on ws t =
    let says : (x : Decision) → dated t ws ≡ x → Ends ws t x = λ x e. subst (Ends ws t) e (ends_dated ws t) in
    record {
      until = λ u. (says (on_until u), last_dated_lem ws t u);
      meets = (says on_open, λ m. open_dated ws t (unends ws t m));
      unending = (λ e. unends ws t (says on_open e), open_dated ws t);
      otherwise = idle_dated ws t;
    }
