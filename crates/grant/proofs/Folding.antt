-- A list read grant by grant into what is kept of it: what the rest gives, from a position on.
use mathlib.Core.Path.{◌≡◌, refl, ap}
use mathlib.Core.List.{List, [], ◌∷◌}
use Prim.Native.Nat.{ℕ, ◌<◌, ◌≤◌}
use lib.ListN.{length}
use Rattle.rules.specs.Answers.{Answer, answer, refused, then}
use Rattle.grant.specs.Grant.{Grant, GrantRead, GrantReader, grants_by}
use Rattle.grant.proofs.Listing.{in_front, GoesOn, grants_at, grants_unfold, grants_done, grants_all}

module _ (reader : GrantReader) {S B : Type 0} (ends : S → List Grant → B) (bytes : List ℕ) where
  abbrev given : S → Answer (List Grant) → Answer B
  given s list = then list λ gs. answer (ends s gs)

  -- `ends` is what a list gives, after what is kept so far
  unfoldable pub outcome : ℕ → S → Answer B
  outcome at s = given s (grants_at reader bytes at)

  pub outcome_ends : (at : ℕ) (s : S) → length bytes ≤ at → outcome at s ≡ answer (ends s [])
  unfolding outcome
  outcome_ends at s h = ap (given s) (grants_done reader bytes at h)

  -- from the start it is the whole list
  pub outcome_whole : (s : S) → outcome 0 s ≡ given s (grants_by reader bytes)
  unfolding outcome
  outcome_whole s = ap (given s) (grants_all reader bytes)

  module _ (on : GoesOn reader) where
    pub outcome_refused : (at : ℕ) (s : S) {n : ℕ} → at < length bytes → reader bytes at ≡ refused n → outcome at s ≡ refused n
    unfolding outcome
    outcome_refused at s h e = rw (grants_unfold reader on bytes at h, e)

    -- `t` is what is kept after one grant more
    pub outcome_next : (at : ℕ) (s t : S) {g : GrantRead} → at < length bytes → reader bytes at ≡ answer g
        → ((gs : List Grant) → ends s (g.grant ∷ gs) ≡ ends t gs) → outcome at s ≡ outcome g.next t
    unfolding outcome
    outcome_next at s t {g} h e front = rw (grants_unfold reader on bytes at h, e) (joined (grants_at reader bytes g.next))
      where
        joined : (rest : Answer (List Grant)) → given s (in_front g rest) ≡ given t rest
        joined (answer gs) = ap answer (front gs)
        joined (refused n) = refl
