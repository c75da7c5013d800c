-- The laws of a grant list: where a grant ends, that the list is read to the bytes' end, and that none of its grants is bad.
use mathlib.Core.Path.{◌≡◌, refl, ap, sym, ◌∙◌}
use mathlib.Core.Bool.{false}
use mathlib.Core.List.{List, [], ◌∷◌}
use Prim.Native.Nat.{ℕ, zero, suc, ◌+◌, ◌-◌, ◌<◌, ◌≤◌}
use native.Mathlib.Omega.{arith}
use native.Mathlib.Nat.{sub-zero}
use lib.ListN.{length}
use borrow.Author.Tests.{le-leb, lt-leb}
use Rattle.rules.specs.Answers.{Answer, answer, then}
use Rattle.rules.proofs.Answers.{same_answer, peel, then_answer, then_same}
use Rattle.rules.proofs.Cases.{by_lt}
use Rattle.number.specs.Number.{number_at}
use Rattle.number.proofs.Laws.{number_ends}
use Rattle.grant.specs.Grant.{Grant, GrantRead, GrantReader, grant_bad, checked_grant, grant_at, grants_from, grants_by, grants_of, some_bad}

-- a grant ends after the position where it starts, and within the bytes, and is not bad
pub record GrantStands (bytes : List ℕ) (at : ℕ) (g : GrantRead) : Type 0 where
  pub starts : at < g.next
  pub ends : g.next ≤ length bytes
  pub good : grant_bad g.grant ≡ false

pub grant_stands : (bytes : List ℕ) (at : ℕ) {g : GrantRead} → grant_at bytes at ≡ answer g → GrantStands bytes at g
unfolding grant_at checked_grant
grant_stands bytes at e =
    let a = then_answer (number_at bytes at) _ e in
    let b = then_answer (number_at bytes a.0.next) _ a.2 in
    let c = then_answer (number_at bytes b.0.next) _ b.2 in
    let d = then_answer (number_at bytes c.0.next) _ c.2 in
    let l = then_answer (number_at bytes d.0.next) _ d.2 in
    let p = peel (grant_bad _) 14 _ l.2 in
    let ea = number_ends bytes at a.1 in
    let eb = number_ends bytes a.0.next b.1 in
    let ec = number_ends bytes b.0.next c.1 in
    let ed = number_ends bytes c.0.next d.1 in
    let el = number_ends bytes d.0.next l.1 in
    let g = same_answer p.1 in
    let n = ap (λ (r : GrantRead). r.next) g in
    record { starts = omega arith; ends = omega arith; good = ap (λ (r : GrantRead). grant_bad r.grant) (sym g) ∙ p.0 }

-- a grant in front of others
abbrev pub in_front : GrantRead → Answer (List Grant) → Answer (List Grant)
in_front g rest = then rest λ gs. answer (g.grant ∷ gs)

-- a reader goes on: the next position is after the one where a grant starts
abbrev pub GoesOn : GrantReader → Type 0
GoesOn reader = (bytes : List ℕ) (at : ℕ) (g : GrantRead) → reader bytes at ≡ answer g → at < g.next

pub grant_goes_on : GoesOn grant_at
grant_goes_on bytes at g e = (grant_stands bytes at e).starts

module _ (reader : GrantReader) where
  from_end : (n : ℕ) (bytes : List ℕ) (at : ℕ) → length bytes ≤ at → grants_from reader n bytes at ≡ answer []
  unfolding grants_from
  from_end zero bytes at h = refl
  from_end (suc n) bytes at h = rw (le-leb _ _ h)

  from_more : (n : ℕ) (bytes : List ℕ) (at : ℕ) → at < length bytes
      → grants_from reader (suc n) bytes at ≡ then (reader bytes at) (λ (g : GrantRead). in_front g (grants_from reader n bytes g.next))
  unfolding grants_from
  from_more n bytes at h = rw (lt-leb _ _ h)

  -- the grants from a position to the bytes' end
  unfoldable pub grants_at : List ℕ → ℕ → Answer (List Grant)
  grants_at bytes at = grants_from reader (length bytes - at) bytes at

  pub grants_done : (bytes : List ℕ) (at : ℕ) → length bytes ≤ at → grants_at bytes at ≡ answer []
  unfolding grants_at
  grants_done bytes at h = from_end (length bytes - at) bytes at h

  pub grants_all : (bytes : List ℕ) → grants_at bytes 0 ≡ grants_by reader bytes
  unfolding grants_at grants_by
  grants_all bytes = rw sub-zero

  module _ (on : GoesOn reader) where
    -- a count that the bytes do not reach does not matter
    from_same : (n m : ℕ) (bytes : List ℕ) (at : ℕ) → length bytes ≤ at + n → length bytes ≤ at + m → grants_from reader n bytes at ≡ grants_from reader m bytes at
    from_same zero m bytes at h k = from_end 0 bytes at (omega arith) ∙ sym (from_end m bytes at (omega arith))
    from_same (suc n) zero bytes at h k = from_end (suc n) bytes at (omega arith) ∙ sym (from_end 0 bytes at (omega arith))
    from_same (suc n) (suc m) bytes at h k =
        by_lt at (length bytes)
        (λ l. from_more n bytes at l
        ∙ then_same (reader bytes at) _ _ (λ g e.
        let s = on bytes at g e in
        ap (in_front g) (from_same n m bytes g.next (omega (arith, s)) (omega (arith, s))))
        ∙ sym (from_more m bytes at l))
        (λ l. from_end (suc n) bytes at l ∙ sym (from_end (suc m) bytes at l))

    -- before the bytes' end there is a grant, and then the rest from its next position
    pub grants_unfold : (bytes : List ℕ) (at : ℕ) → at < length bytes
        → grants_at bytes at ≡ then (reader bytes at) (λ (g : GrantRead). in_front g (grants_at bytes g.next))
    unfolding grants_at
    grants_unfold bytes at h =
        let n = length bytes - at - 1 in
        let k : length bytes - at ≡ suc n = omega arith in
        ap (λ (m : ℕ). grants_from reader m bytes at) k ∙ from_more n bytes at h
        ∙ then_same (reader bytes at) _ _ (λ g e.
        let s = on bytes at g e in
        ap (in_front g) (from_same n (length bytes - g.next) bytes g.next (omega (arith, s)) (omega (arith, s))))

from_good : (n : ℕ) (bytes : List ℕ) (at : ℕ) {gs : List Grant} → grants_from grant_at n bytes at ≡ answer gs → some_bad gs ≡ false
unfolding grants_from some_bad
from_good zero bytes at e = ap some_bad (sym (same_answer e))
from_good (suc n) bytes at e =
    by_lt at (length bytes)
    (λ l.
    let a = then_answer (grant_at bytes at) _ (sym (from_more grant_at n bytes at l) ∙ e) in
    let b = then_answer (grants_from grant_at n bytes a.0.next) _ a.2 in
    let s = grant_stands bytes at a.1 in
    let t = from_good n bytes a.0.next b.1 in
    ap some_bad (sym (same_answer b.2)) ∙ rw s.good t)
    (λ l. ap some_bad (sym (same_answer (sym (from_end grant_at (suc n) bytes at l) ∙ e))))

-- no grant of a list that reads in is bad
pub grants_good : (bytes : List ℕ) {gs : List Grant} → grants_of bytes ≡ answer gs → some_bad gs ≡ false
unfolding grants_by
grants_good bytes e = from_good (length bytes) bytes 0 e
