-- A page's list from one of its items on: the grants that are read and judged, and how many lines they have.
use mathlib.Core.Path.{◌≡◌, refl, ap, sym, ◌∙◌}
use mathlib.Core.Bool.{Bool, true, false, cond}
use mathlib.Core.List.{List, [], ◌∷◌}
use Prim.Native.Nat.{ℕ, ◌+◌}
use native.Mathlib.Omega.{arith}
use lib.ListN.{length}
use Rattle.rules.specs.Answers.{Answer, answer, refused, then}
use Rattle.rules.proofs.Answers.{same_answer, then_answer, peel, never_refused}
use Rattle.grant.specs.Grant.{Grant, GrantRead, grant_at, grants_by}
use Rattle.grant.specs.Items.{items_of}
use Rattle.grant.proofs.Items.{judged, judged_list, list_whole}
use Rattle.grant.proofs.Listing.{GrantStands, grant_stands, GoesOn}
use Rattle.matching.specs.Matching.{covers}
use Rattle.board.specs.Board.{undated}
use Rattle.page.specs.Page.{dated_grant_at, applying}
use Rattle.page.specs.Inside.Reading.{lines_of}

-- a grant that is read is a grant of the bytes, and is not undated
pub dated_read : (bytes : List ℕ) (at : ℕ) {g : GrantRead} → dated_grant_at bytes at ≡ answer g → (grant_at bytes at ≡ answer g) × (undated g.grant ≡ false)
unfolding dated_grant_at
dated_read bytes at e =
    let a = then_answer (grant_at bytes at) _ e in
    let p = peel (undated _) 31 _ a.2 in
    let g = same_answer p.1 in
    (a.1 ∙ ap answer g, ap (λ (r : GrantRead). undated r.grant) (sym g) ∙ p.0)

pub dated_stands : (bytes : List ℕ) (at : ℕ) {g : GrantRead} → dated_grant_at bytes at ≡ answer g → GrantStands bytes at g
dated_stands bytes at e = grant_stands bytes at (dated_read bytes at e).0

pub dated_goes_on : GoesOn dated_grant_at
dated_goes_on bytes at g e = (dated_stands bytes at e).starts

-- a grant of a page's list, once it is read
abbrev pub in_time : Grant → Answer Grant
in_time g = cond (undated g) (refused 31) (answer g)

-- the grants of some items, each of them judged
unfoldable pub dated_list : List (Answer Grant) → Answer (List Grant)
dated_list left = judged_list in_time left

pub dated_whole : (bytes : List ℕ) → dated_list (items_of bytes) ≡ grants_by dated_grant_at bytes
unfolding dated_list dated_grant_at
dated_whole bytes = list_whole dated_grant_at in_time (λ b at. go (grant_at b at)) bytes
  where
    said : (b : Bool) (g : GrantRead) → cond b (refused 31) (answer g) ≡ then (cond b (refused 31) (answer g.grant)) (λ x. answer (record { grant = x; next = g.next }))
    said true g = refl
    said false g = refl

    go : (a : Answer GrantRead) → then a (λ g. cond (undated g.grant) (refused 31) (answer g)) ≡ judged in_time a
    go (answer g) = said (undated g.grant) g
    go (refused n) = refl

-- a grant in front, and those after it
pub record Next (g : Grant) (left : List (Answer Grant)) (grants : List Grant) : Type 0 where
  pub good : undated g ≡ false
  pub rest : List Grant
  pub others : dated_list left ≡ answer rest
  pub split : grants ≡ g ∷ rest

pub dated_next : {g : Grant} {left : List (Answer Grant)} {grants : List Grant} → dated_list (answer g ∷ left) ≡ answer grants → Next g left grants
unfolding dated_list judged_list
dated_next {g} {left} e =
    let a = then_answer (in_time g) _ e in
    let p = peel (undated g) 31 (answer g) a.1 in
    let b = then_answer (judged_list in_time left) _ a.2 in
    record { good = p.0; rest = b.0; others = b.1; split = sym (same_answer b.2) ∙ ap (λ x. x ∷ b.0) (sym (same_answer p.1)) }

pub dated_never : {C : Type 0} (n : ℕ) (left : List (Answer Grant)) {grants : List Grant} → dated_list (refused n ∷ left) ≡ answer grants → C
unfolding dated_list judged_list
dated_never n left e = never_refused e

pub dated_none : {grants : List Grant} → dated_list [] ≡ answer grants → grants ≡ []
unfolding dated_list judged_list
dated_none e = sym (same_answer e)

-- ## How many lines

module _ (l r : ℕ) where
  abbrev counted : ℕ → Answer (List Grant) → Answer ℕ
  counted n list = then list λ gs. answer (n + length (applying l r gs))

  -- with the lines of the grants before them
  unfoldable pub lines : List (Answer Grant) → ℕ → Answer ℕ
  lines left n = counted n (dated_list left)

  pub lines_end : {left : List (Answer Grant)} (n : ℕ) → left ≡ [] → lines left n ≡ answer n
  unfolding lines dated_list judged_list applying
  lines_end n e = rw e (ap answer (omega arith))

  pub lines_refused : {left rest : List (Answer Grant)} {k : ℕ} (n : ℕ) → left ≡ refused k ∷ rest → lines left n ≡ refused k
  unfolding lines dated_list judged_list
  lines_refused n e = rw e

  pub lines_undated : {left rest : List (Answer Grant)} {g : Grant} (n : ℕ) → left ≡ answer g ∷ rest → undated g ≡ true → lines left n ≡ refused 31
  unfolding lines dated_list judged_list
  lines_undated n e u = rw (e, u)

  -- a grant that applies has a line, another one has none
  pub lines_applies : {left rest : List (Answer Grant)} {g : Grant} (n : ℕ) → left ≡ answer g ∷ rest → undated g ≡ false → covers l r g ≡ true
      → lines left n ≡ lines rest (n + 1)
  unfolding lines dated_list judged_list applying
  lines_applies {rest = rest} {g} n e u y = rw (e, u) (go (judged_list in_time rest))
    where
      go : (list : Answer (List Grant)) → counted n (then list λ gs. answer (g ∷ gs)) ≡ counted (n + 1) list
      go (answer gs) = rw y (ap answer (omega arith))
      go (refused k) = refl

  pub lines_other : {left rest : List (Answer Grant)} {g : Grant} (n : ℕ) → left ≡ answer g ∷ rest → undated g ≡ false → covers l r g ≡ false
      → lines left n ≡ lines rest n
  unfolding lines dated_list judged_list applying
  lines_other {rest = rest} {g} n e u y = rw (e, u) (go (judged_list in_time rest))
    where
      go : (list : Answer (List Grant)) → counted n (then list λ gs. answer (g ∷ gs)) ≡ counted n list
      go (answer gs) = rw y
      go (refused k) = refl

  pub lines_whole : (bytes : List ℕ) → lines (items_of bytes) 0 ≡ lines_of l r bytes
  unfolding lines lines_of
  lines_whole bytes = ap (counted 0) (dated_whole bytes) ∙ go (grants_by dated_grant_at bytes)
    where
      go : (list : Answer (List Grant)) → counted 0 list ≡ then list λ gs. answer (length (applying l r gs))
      go (answer gs) = ap answer (omega arith)
      go (refused k) = refl
