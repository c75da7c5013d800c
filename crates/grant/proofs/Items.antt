-- The laws of a list's items: the next one, and that together they are the list.
use mathlib.Core.Path.{◌≡◌, refl, ap, sym, ◌∙◌}
use mathlib.Core.Bool.{Bool, true, false, cond}
use mathlib.Core.List.{List, [], ◌∷◌, ◌++◌, append_assoc}
use Prim.Native.Nat.{ℕ, zero, suc, ◌+◌, ◌-◌, ◌<◌, ◌≤◌}
use native.Mathlib.Omega.{arith}
use lib.Dec.{leb}
use lib.ListN.{length}
use borrow.Author.Tests.{le-leb, lt-leb}
use Rattle.rules.specs.Answers.{Answer, answer, refused, then}
use Rattle.rules.proofs.Answers.{same_answer, then_answer}
use Rattle.rules.proofs.Cases.{by_lt}
use Rattle.grant.specs.Grant.{Grant, GrantRead, GrantReader, grant_at, grants_by}
use Rattle.grant.specs.Items.{item_then, items_from, items_of}
use Rattle.grant.proofs.Listing.{GoesOn, grant_goes_on}
use Rattle.grant.proofs.Folding.{outcome, outcome_ends, outcome_refused, outcome_next, outcome_whole}

-- ## The next item

items_end : (n : ℕ) (bytes : List ℕ) (at : ℕ) → length bytes ≤ at → items_from n bytes at ≡ []
unfolding items_from
items_end zero bytes at h = refl
items_end (suc n) bytes at h = rw (le-leb _ _ h)

items_more : (n : ℕ) (bytes : List ℕ) (at : ℕ) → at < length bytes → items_from (suc n) bytes at ≡ item_then (grant_at bytes at) (items_from n bytes)
unfolding items_from
items_more n bytes at h = rw (lt-leb _ _ h)

-- two ways to go on that agree where a grant was read
item_same : (a : Answer GrantRead) (f g : ℕ → List (Answer Grant)) → ((r : GrantRead) → a ≡ answer r → f r.next ≡ g r.next) → item_then a f ≡ item_then a g
item_same (answer r) f g h = ap (λ rest. answer r.grant ∷ rest) (h r refl)
item_same (refused n) f g h = refl

-- a count that the bytes do not reach does not matter
items_same : (n m : ℕ) (bytes : List ℕ) (at : ℕ) → length bytes ≤ at + n → length bytes ≤ at + m → items_from n bytes at ≡ items_from m bytes at
items_same zero m bytes at h k = items_end 0 bytes at (omega arith) ∙ sym (items_end m bytes at (omega arith))
items_same (suc n) zero bytes at h k = items_end (suc n) bytes at (omega arith) ∙ sym (items_end 0 bytes at (omega arith))
items_same (suc n) (suc m) bytes at h k =
    by_lt at (length bytes)
    (λ l. items_more n bytes at l
    ∙ item_same (grant_at bytes at) (items_from n bytes) (items_from m bytes) (λ r e.
    let s = grant_goes_on bytes at r e in items_same n m bytes r.next (omega (arith, s)) (omega (arith, s)))
    ∙ sym (items_more m bytes at l))
    (λ l. items_end (suc n) bytes at l ∙ sym (items_end (suc m) bytes at l))

-- the items from a position to the bytes' end
abbrev pub items_at : List ℕ → ℕ → List (Answer Grant)
items_at bytes at = items_from (length bytes - at) bytes at

pub items_done : (bytes : List ℕ) (at : ℕ) → length bytes ≤ at → items_at bytes at ≡ []
items_done bytes at h = items_end (length bytes - at) bytes at h

pub items_next : (bytes : List ℕ) (at : ℕ) → at < length bytes → items_at bytes at ≡ item_then (grant_at bytes at) (items_at bytes)
items_next bytes at h =
    let n = length bytes - at - 1 in
    let k : length bytes - at ≡ suc n = omega arith in
    ap (λ (m : ℕ). items_from m bytes at) k ∙ items_more n bytes at h
    ∙ item_same (grant_at bytes at) (items_from n bytes) (items_at bytes) (λ r e.
    let s = grant_goes_on bytes at r e in items_same n (length bytes - r.next) bytes r.next (omega (arith, s)) (omega (arith, s)))

pub item_given : (bytes : List ℕ) (at : ℕ) {r : GrantRead} → at < length bytes → grant_at bytes at ≡ answer r → items_at bytes at ≡ answer r.grant ∷ items_at bytes r.next
item_given bytes at h e = items_next bytes at h ∙ ap (λ a. item_then a (items_at bytes)) e

pub item_refused : (bytes : List ℕ) (at : ℕ) {n : ℕ} → at < length bytes → grant_at bytes at ≡ refused n → items_at bytes at ≡ refused n ∷ items_at bytes (length bytes)
item_refused bytes at {n} h e =
    items_next bytes at h ∙ ap (λ a. item_then a (items_at bytes)) e ∙ ap (λ rest. refused n ∷ rest) (sym (items_done bytes (length bytes) (omega arith)))

-- no more items than bytes
pub items_count : (n : ℕ) (bytes : List ℕ) (at : ℕ) → length (items_from n bytes at) ≤ n
unfolding items_from
items_count zero bytes at = omega arith
items_count (suc n) bytes at = go (leb (length bytes) at) (grant_at bytes at) (λ next. items_count n bytes next)
  where
    go : (b : Bool) (a : Answer GrantRead) → ((next : ℕ) → length (items_from n bytes next) ≤ n) → length (cond b [] (item_then a (items_from n bytes))) ≤ suc n
    go true a h = omega arith
    go false (answer r) h = omega (arith, h r.next)
    go false (refused k) h = omega arith

-- ## The list

-- a list of items, each of which is judged
unfoldable pub judged_list : (Grant → Answer Grant) → List (Answer Grant) → Answer (List Grant)
judged_list judge [] = answer []
judged_list judge (answer g ∷ rest) = then (judge g) λ x. then (judged_list judge rest) λ gs. answer (x ∷ gs)
judged_list judge (refused n ∷ rest) = refused n

-- what reads a grant and judges it
abbrev pub judged : (Grant → Answer Grant) → Answer GrantRead → Answer GrantRead
judged judge a = then a λ r. then (judge r.grant) λ x. answer (record { grant = x; next = r.next })

module _ (reader : GrantReader) (judge : Grant → Answer Grant) (by : (bytes : List ℕ) (at : ℕ) → reader bytes at ≡ judged judge (grant_at bytes at)) where
  by_goes_on : GoesOn reader
  by_goes_on bytes at g e =
      let a = then_answer (grant_at bytes at) _ (sym (by bytes at) ∙ e) in
      let b = then_answer (judge a.0.grant) _ a.2 in
      let n : a.0.next ≡ g.next = ap (λ (r : GrantRead). r.next) (same_answer b.2) in
      omega (arith, grant_goes_on bytes at a.0 a.1, n)

  -- after those that are kept so far
  abbrev kept : List Grant → Answer (List Grant) → Answer (List Grant)
  kept s list = then list λ gs. answer (s ++ gs)

  one_more : (s : List Grant) (x : Grant) (list : Answer (List Grant)) → kept s (then list λ gs. answer (x ∷ gs)) ≡ kept (s ++ (x ∷ [])) list
  one_more s x (answer gs) = ap answer (sym (append_assoc s (x ∷ []) gs))
  one_more s x (refused n) = refl

  -- what a list gives from a position on, after what is kept so far, its items give, judged one after another
  list_kept : (n : ℕ) (bytes : List ℕ) (at : ℕ) (s : List Grant) → length bytes ≤ at + n
      → kept s (judged_list judge (items_from n bytes at)) ≡ outcome reader (λ s gs. s ++ gs) bytes at s
  unfolding judged_list
  list_kept zero bytes at s h = ap (λ left. kept s (judged_list judge left)) (items_end 0 bytes at (omega arith)) ∙ sym (outcome_ends reader _ bytes at s (omega arith))
  list_kept (suc n) bytes at s h =
      by_lt at (length bytes)
      (λ l. ap (λ left. kept s (judged_list judge left)) (items_more n bytes at l) ∙ go l (grant_at bytes at) refl (list_kept n bytes))
      (λ l. ap (λ left. kept s (judged_list judge left)) (items_end (suc n) bytes at l) ∙ sym (outcome_ends reader _ bytes at s l))
    where
      -- the same of what comes further on
      Rest : Type 0
      Rest = (next : ℕ) (s : List Grant) → length bytes ≤ next + n → kept s (judged_list judge (items_from n bytes next)) ≡ outcome reader (λ s gs. s ++ gs) bytes next s

      given : at < length bytes → (r : GrantRead) → grant_at bytes at ≡ answer r → (x : Answer Grant) → judge r.grant ≡ x → Rest
          → kept s (then x λ y. then (judged_list judge (items_from n bytes r.next)) λ gs. answer (y ∷ gs)) ≡ outcome reader (λ s gs. s ++ gs) bytes at s
      given l r e (refused k) f rest = sym (outcome_refused reader _ bytes by_goes_on at s l (by bytes at ∙ rw (e, f)))
      given l r e (answer x) f rest =
          let m = grant_goes_on bytes at r e in
          one_more s x (judged_list judge (items_from n bytes r.next))
          ∙ rest r.next (s ++ (x ∷ [])) (omega (arith, m))
          ∙ sym (outcome_next reader _ bytes by_goes_on at s (s ++ (x ∷ [])) {g = record { grant = x; next = r.next }} l (by bytes at ∙ rw (e, f)) (λ gs. sym (append_assoc s (x ∷ []) gs)))

      go : at < length bytes → (a : Answer GrantRead) → grant_at bytes at ≡ a → Rest
          → kept s (judged_list judge (item_then a (items_from n bytes))) ≡ outcome reader (λ s gs. s ++ gs) bytes at s
      go l (refused k) e rest = sym (outcome_refused reader _ bytes by_goes_on at s l (by bytes at ∙ rw e))
      go l (answer r) e rest = given l r e (judge r.grant) refl rest

  pub list_whole : (bytes : List ℕ) → judged_list judge (items_of bytes) ≡ grants_by reader bytes
  list_whole bytes =
      sym (none_kept (judged_list judge (items_of bytes))) ∙ list_kept (length bytes) bytes 0 [] (omega arith) ∙ outcome_whole reader _ bytes [] ∙ none_kept (grants_by reader bytes)
    where
      none_kept : (list : Answer (List Grant)) → kept [] list ≡ list
      none_kept (answer gs) = refl
      none_kept (refused n) = refl

-- a list that is read and no more
pub list_read : (bytes : List ℕ) → judged_list answer (items_of bytes) ≡ grants_by grant_at bytes
list_read bytes = list_whole grant_at answer (λ b at. go (grant_at b at)) bytes
  where
    go : (a : Answer GrantRead) → a ≡ judged answer a
    go (answer r) = refl
    go (refused n) = refl
