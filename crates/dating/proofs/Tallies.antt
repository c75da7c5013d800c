-- A reading, window by window: what is known of the run, and of each window that was counted in.
use mathlib.Core.Path.{◌≡◌}
use mathlib.Core.Bool.{true, or-true}
use mathlib.Core.List.{List, [], ◌∷◌}
use mathlib.Core.Logic.{◌≢◌}
use Prim.Native.Nat.{ℕ, ◌≤◌}
use borrow.Author.Tests.{eq-eqb, ne_eqb}
use Rattle.rules.proofs.Cases.{by_eq}
use Rattle.std.specs.Prelude.{Option, Some, IfSome, IsSomeAnd}
use Rattle.matching.specs.Matching.{Window}
use Rattle.matching.proofs.Windows.{Right, AllRight}
use Rattle.renewals.specs.Dating.{is_open, runs}
use Rattle.renewals.specs.Renewals.{some_runs}
use Rattle.renewals.proofs.Days.{runs_from, runs_open}
use Rattle.renewals.proofs.Later.{First, first_here, first_there}
use Rattle.unbroken.specs.Inside.Run.{earlier, carry}
use Rattle.unbroken.specs.declared.Run.{Run}
use Rattle.dating.specs.Inside.Tally.{run_with, open_with, count_in, counted_in}
use Rattle.dating.specs.declared.Tally.{Tally}
use Rattle.dating.proofs.Kept.{earlier_one, earlier_day, earlier_known}
use Rattle.dating.proofs.Runs.{Settled, Closed, Fair, carry_fair, carry_settled}

abbrev pub Every : (Window → Type 0) → List Window → Type 0
Every P [] = Unit {0}
Every P (w ∷ ws) = P w × Every P ws

module _ (all : List Window) where
  -- the days that are covered by all windows
  abbrev Covered : ℕ → Type 0
  Covered d = some_runs d all ≡ true

  -- one of them
  pub record Member (w : Window) : Type 0 where
    pub right : Right w
    pub covers : (d : ℕ) → runs d w ≡ true → Covered d
    pub begins : First all w.first

  pub members : (ws : List Window) → AllRight ws → ((d : ℕ) → some_runs d ws ≡ true → Covered d) → ((f : ℕ) → First ws f → First all f) → Every Member ws
  unfolding some_runs
  members [] r c f = tt
  members (w ∷ ws) r c f = (
    record { right = r.0; covers = λ d e. c d (rw e); begins = f w.first (first_here w ws) },
    members ws r.1 (λ d e. c d (rw (e, or-true (runs d w)))) (λ x h. f x (first_there w ws x h)),
  )

  -- a window was counted in: an open one begins no earlier than the least first day of these, a closed one is settled
  abbrev pub Seen : Run → Option ℕ → Window → Type 0
  Seen r o w = (w.last ≡ 0 → IsSomeAnd o (λ d. d ≤ w.first)) × (w.last ≢ 0 → Settled r w)

  module _ (day s : ℕ) where
    -- a reading so far
    pub record Good (r : Run) (o : Option ℕ) : Type 0 where
      pub fair : Fair Covered (First all) day s r
      pub endlessly : IfSome o (λ f. (d : ℕ) → f ≤ d → Covered d)

    record Step (r : Run) (o : Option ℕ) (w : Window) (r' : Run) (o' : Option ℕ) : Type 0 where
      good : Good r' o'
      here : Seen r' o' w
      kept : (v : Window) → Seen r o v → Seen r' o' v

    step : (r : Run) (o : Option ℕ) (w : Window) → Member w → Good r o → Step r o w (run_with r w) (open_with o w)
    unfolding run_with open_with is_open
    step r o w m g = by_eq w.last 0 (λ z. rw (eq-eqb _ _ z) (opened z)) (λ z. rw (ne_eqb _ _ z) (closed z))
      where
        opened : w.last ≡ 0 → Step r o w r (Some (earlier o w.first))
        opened z =
            record {
              good = record {
                fair = g.fair;
                endlessly = earlier_one (λ (f : ℕ). (d : ℕ) → f ≤ d → Covered d) o w.first g.endlessly (λ d h. m.covers d (runs_open d w h z));
              };
              here = (λ _. earlier_day o w.first, λ n. absurd (n z));
              kept = λ v k. (λ e. earlier_known o w.first v.first (k.0 e), k.1);
            }

        closed : w.last ≢ 0 → Step r o w (carry r w) o
        closed z =
            let c : Closed Covered (First all) w = record { closed = z; right = m.right.ends z; covers = λ d a b. m.covers d (runs_from d w a z b); begins = m.begins } in
            let e = carry_settled r.until r.left w r.stretch in
            record {
              good = record { fair = carry_fair Covered (First all) day s r.until r.stretch r.left w c g.fair; endlessly = g.endlessly };
              here = (λ n. absurd (z n), λ _. e.0);
              kept = λ v k. (k.0, λ n. e.1 v (k.1 n));
            }

    -- a whole reading
    pub record Whole (ws : List Window) (r : Run) (o : Option ℕ) (r' : Run) (o' : Option ℕ) : Type 0 where
      pub good : Good r' o'
      pub seen : Every (Seen r' o') ws
      pub kept : (v : Window) → Seen r o v → Seen r' o' v

    pub whole : (t : Tally) (ws : List Window) → Every Member ws → Good t.run t.open_from
        → Whole ws t.run t.open_from (counted_in day t ws).run (counted_in day t ws).open_from
    unfolding counted_in count_in
    whole t [] m g = record { good = g; seen = tt; kept = λ v k. k }
    whole t (w ∷ ws) m g =
        let a = step t.run t.open_from w m.0 g in
        let b = whole (count_in day t w) ws m.1 a.good in
        record { good = b.good; seen = (b.kept w a.here, b.seen); kept = λ v k. b.kept v (a.kept v k) }
