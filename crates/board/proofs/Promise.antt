-- What a line promises: its state is the decision on its grant alone, and it has 41 bytes.
use mathlib.Core.Path.{◌≡◌, refl, sym}
use mathlib.Core.Bool.{Bool, true, false, cond, not, ◌&&◌, ◌||◌, true≢false}
use mathlib.Core.List.{List, [], ◌∷◌}
use Prim.Native.Nat.{ℕ, zero, suc}
use native.Mathlib.Omega.{arith}
use lib.Dec.{eqb, leb, ltb}
use borrow.Author.Tests.{lt-ltb, leb-false, ltb-false, le-leb}
use Rattle.rules.proofs.Cases.{by_lt}
use Rattle.text.specs.Letters.{letters}
use Rattle.matching.specs.Matching.{Window}
use Rattle.renewals.specs.Dating.{Decision, is_open, runs, has_ended, yet_to_begin, those, some_open, greatest_last, not_on, prolonged, run_from, on_open, on_until, dated}
use Rattle.board.specs.Board.{state_text}
use Rattle.board.proofs.Laws.{line_count}
use Rattle.board.specs.Promise.{word, LineBytes, StateAlone}

-- a run of days is on
some_on : (w : Window) (ws : List Window) (none : Decision) (further : ℕ → Decision) → ((u : ℕ) → word (further u) ≡ letters "on")
    → word (prolonged (w ∷ ws) none further) ≡ letters "on"
unfolding prolonged word
some_on w ws none further f = go (some_open (w ∷ ws))
  where
    go : (b : Bool) → word (cond b on_open (further (greatest_last w.last ws))) ≡ letters "on"
    go true = refl
    go false = f (greatest_last w.last ws)

all_on : (running : List Window) (u : ℕ) (further : ℕ → Decision) → ((v : ℕ) → word (further v) ≡ letters "on")
    → word (prolonged running (on_until u) further) ≡ letters "on"
unfolding prolonged word
all_on [] u further f = refl
all_on (w ∷ ws) u further f = some_on w ws (on_until u) further f

on_word : (most : ℕ) (ws : List Window) (u : ℕ) → word (run_from most ws u) ≡ letters "on"
unfolding run_from word
on_word zero ws u = refl
on_word (suc most) ws u = all_on (those (runs (suc u)) ws) u (run_from most ws) (on_word most ws)

-- a window that neither runs nor has ended has yet to begin
yet : (day : ℕ) (w : Window) → runs day w ≡ false → has_ended day w ≡ false → yet_to_begin day w ≡ true
unfolding runs has_ended yet_to_begin is_open
yet day w r h = by_lt day w.first (λ k. lt-ltb _ _ k) (λ k. absurd (go (eqb w.last 0) (rw (le-leb w.first day k) at r) h))
  where
    go : (b : Bool) → (b || leb day w.last) ≡ false → (not b && ltb w.last day) ≡ false → ⊥
    go true e f = true≢false e
    go false e f = omega (arith, leb-false day w.last e, ltb-false w.last day f)

pub state_alone : StateAlone
unfolding state_text dated those not_on prolonged word
state_alone day w = go (runs day w) (has_ended day w) refl refl
  where
    go : (r h : Bool) → runs day w ≡ r → has_ended day w ≡ h
        → cond r (letters "on") (cond h (letters "ended") (letters "ahead"))
        ≡ word (prolonged (cond r (w ∷ []) []) (not_on (cond h (w ∷ []) []) (cond (yet_to_begin day w) (w ∷ []) [])) (run_from 1 (w ∷ [])))
    go true h e f = sym (some_on w [] (not_on (cond h (w ∷ []) []) (cond (yet_to_begin day w) (w ∷ []) [])) (run_from 1 (w ∷ [])) (on_word 1 (w ∷ [])))
    go false true e f = refl
    go false false e f = rw (yet day w e f)

pub line_bytes : LineBytes
line_bytes = line_count
