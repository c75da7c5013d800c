-- The laws of stored grants: the bytes of a list of grants read back as that list, or give 14 where one of them is bad.
use mathlib.Core.Path.{◌≡◌, refl, ap, sym, ◌∙◌}
use mathlib.Core.Bool.{Bool, true, false, cond, ◌||◌}
use mathlib.Core.List.{List, [], ◌∷◌, ◌++◌, flat_map, append_assoc, append-nil}
use Prim.Native.Nat.{ℕ, ◌+◌, ◌≤◌, ◌<◌}
use native.Mathlib.Omega.{arith}
use lib.ListN.{length, length-append}
use Rattle.rules.specs.Answers.{Answer, answer, refused, then}
use Rattle.rules.specs.Limits.{greatest}
use Rattle.rules.proofs.Answers.{then_cond}
use Rattle.number.specs.Number.{bytes_of}
use Rattle.number.proofs.Laws.{number_count}
use Rattle.number.proofs.Runs.{run_back}
use Rattle.grant.specs.Grant.{Grant, GrantRead, grant_bad, checked_grant, grant_at, grants_of, grant_bytes, grants_bytes, some_bad, checked_grants}
use Rattle.grant.proofs.Listing.{in_front, grant_goes_on, grants_at, grants_unfold, grants_done, grants_all}

-- a grant of numbers that bytes can hold
pub record Fits (g : Grant) : Type 0 where
  pub in_feature : g.feature ≤ greatest
  pub in_l : g.l ≤ greatest
  pub in_r : g.r ≤ greatest
  pub in_first : g.first ≤ greatest
  pub in_last : g.last ≤ greatest

abbrev pub AllFit : List Grant → Type 0
AllFit [] = Unit {0}
AllFit (g ∷ gs) = Fits g × AllFit gs

-- a grant's bytes are those of its five numbers
grant_run : (g : Grant) → flat_map bytes_of (g.feature ∷ g.l ∷ g.r ∷ g.first ∷ g.last ∷ []) ≡ grant_bytes g
unfolding grant_bytes flat_map
grant_run g = simp append-nil

-- one grant in the middle of longer bytes
grant_back : (g : Grant) (before after : List ℕ) → Fits g
    → grant_at (before ++ (grant_bytes g ++ after)) (length before) ≡ checked_grant g (length before + length (grant_bytes g))
unfolding grant_at
grant_back g before after f =
    let a = rw grant_run at (run_back (g.feature ∷ g.l ∷ g.r ∷ g.first ∷ g.last ∷ []) before after (f.in_feature, (f.in_l, (f.in_r, (f.in_first, (f.in_last, tt)))))) in
    rw (a.1, a.2.1, a.2.2.1, a.2.2.2.1, a.2.2.2.2.1, a.2.2.2.2.2)

-- a bad grant, or a good one and then others
front_checked : (g : Grant) (gs : List Grant) (next : ℕ) (rest : ℕ → Answer (List Grant)) → rest next ≡ checked_grants gs
    → then (checked_grant g next) (λ (r : GrantRead). in_front r (rest r.next)) ≡ checked_grants (g ∷ gs)
unfolding checked_grant checked_grants some_bad
front_checked g gs next rest e = go (grant_bad g)
  where
    go : (b : Bool) → then (cond b (refused 14) (answer (record { grant = g; next = next }))) (λ (r : GrantRead). in_front r (rest r.next))
        ≡ cond (b || some_bad gs) (refused 14) (answer (g ∷ gs))
    go true = refl
    go false = ap (λ (a : Answer (List Grant)). then a (λ (t : List Grant). answer (g ∷ t))) e ∙ then_cond (some_bad gs) 14 gs _

-- a grant has a byte at least
grant_some : (g : Grant) → 0 < length (grant_bytes g)
unfolding grant_bytes
grant_some g = simp length-append (omega (arith, number_count g.feature))

from_back : (gs : List Grant) (before : List ℕ) → AllFit gs → grants_at grant_at (before ++ grants_bytes gs) (length before) ≡ checked_grants gs
unfolding grants_bytes checked_grants some_bad
from_back [] before f = grants_done grant_at (before ++ []) (length before) (simp append-nil (omega arith))
from_back (g ∷ gs) before f =
    let one = grant_bytes g in
    let rest = grants_bytes gs in
    let some : 0 < length one = grant_some g in
    let inside : length before < length (before ++ (one ++ rest)) = simp length-append (omega arith) in
    let others = simp (append_assoc, length-append) at (from_back gs (before ++ one) f.1) in
    grants_unfold grant_at grant_goes_on (before ++ (one ++ rest)) (length before) inside
    ∙ ap (λ (a : Answer GrantRead). then a (λ (r : GrantRead). in_front r (grants_at grant_at (before ++ (one ++ rest)) r.next))) (grant_back g before rest f.0)
    ∙ front_checked g gs (length before + length one) (grants_at grant_at (before ++ (one ++ rest))) others

-- stored grants read back: the list, or 14 where one of them is bad
pub grants_back : (gs : List Grant) → AllFit gs → grants_of (grants_bytes gs) ≡ checked_grants gs
grants_back gs f = sym (grants_all grant_at (grants_bytes gs)) ∙ from_back gs [] f
