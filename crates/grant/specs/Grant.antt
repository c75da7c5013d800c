-- Grants (RULES.md, 9): a grant is feature, l, r, first day, last day; the grant list is grants until its bytes end.
use Rattle.std.specs.Prelude.{ℕ, zero, suc, Bool, false, cond, not, ◌&&◌, ◌||◌, List, [], ◌∷◌, ◌++◌, eqb, leb, ltb, length}
use Rattle.rules.specs.Answers.{Answer, answer, refused, then}
use Rattle.number.specs.Number.{number_at, bytes_of}

pub record Grant : Type 0 where
  pub feature : ℕ
  pub l : ℕ
  pub r : ℕ
  pub first : ℕ
  pub last : ℕ

abbrev pub grant : (feature l r first last : ℕ) → Grant
grant feature l r first last = record { feature = feature; l = l; r = r; first = first; last = last }

-- 14: feature, l, r or first is 0, or last is not 0 and below first
unfoldable pub grant_bad : Grant → Bool
grant_bad g =
    eqb g.feature 0
    || (eqb g.l 0 || (eqb g.r 0 || (eqb g.first 0 || (not (eqb g.last 0) && ltb g.last g.first))))

-- a grant that stands in bytes, and the position after it
pub record GrantRead : Type 0 where
  pub grant : Grant
  pub next : ℕ

-- 14 is found once the grant's five numbers are read
unfoldable pub checked_grant : Grant → ℕ → Answer GrantRead
checked_grant g next = cond (grant_bad g) (refused 14) (answer (record { grant = g; next = next }))

-- the grant at a position
unfoldable pub grant_at : List ℕ → ℕ → Answer GrantRead
grant_at bytes at =
    then (number_at bytes at) λ feature.
    then (number_at bytes feature.next) λ l.
    then (number_at bytes l.next) λ r.
    then (number_at bytes r.next) λ first.
    then (number_at bytes first.next) λ last.
    checked_grant (grant feature.value l.value r.value first.value last.value) last.next

-- what reads one grant, at a position of the bytes
abbrev pub GrantReader : Type 0
GrantReader = List ℕ → ℕ → Answer GrantRead

-- at most `most` grants from a position to the bytes' end, each read by one reader
unfoldable pub grants_from : GrantReader → ℕ → List ℕ → ℕ → Answer (List Grant)
grants_from reader zero bytes at = answer []
grants_from reader (suc most) bytes at =
    cond (leb (length bytes) at)
    (answer [])
    (then (reader bytes at) λ g. then (grants_from reader most bytes g.next) λ gs. answer (g.grant ∷ gs))

-- the grant list is grants until its bytes end; it may be empty. Each grant has a byte at least, so that there are no more grants
-- than bytes: the law `grants_unfold` says that the count never stops the reading
unfoldable pub grants_by : GrantReader → List ℕ → Answer (List Grant)
grants_by reader bytes = grants_from reader (length bytes) bytes 0

abbrev pub grants_of : List ℕ → Answer (List Grant)
grants_of bytes = grants_by grant_at bytes

-- the stored bytes of grants
unfoldable pub grant_bytes : Grant → List ℕ
grant_bytes g = bytes_of g.feature ++ (bytes_of g.l ++ (bytes_of g.r ++ (bytes_of g.first ++ bytes_of g.last)))

unfoldable pub grants_bytes : List Grant → List ℕ
grants_bytes [] = []
grants_bytes (g ∷ gs) = grant_bytes g ++ grants_bytes gs

-- a list of grants, each of which is checked
unfoldable pub some_bad : List Grant → Bool
some_bad [] = false
some_bad (g ∷ gs) = grant_bad g || some_bad gs

unfoldable pub checked_grants : List Grant → Answer (List Grant)
checked_grants gs = cond (some_bad gs) (refused 14) (answer gs)
