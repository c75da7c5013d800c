-- A grant list grant by grant, as an iterator gives it (RULES.md, 9): one that is refused is the last.
use Rattle.std.specs.Prelude.{ℕ, zero, suc, ◌-◌, cond, List, [], ◌∷◌, leb, length, Result}
use Rattle.rules.specs.Answers.{Answer, answer, refused, then}
use Rattle.rules.specs.Says.{says}
use Rattle.rules.specs.declared.Refusal.{Refusal}
use Rattle.grant.specs.Grant.{Grant, GrantRead, grant_at}
use Rattle.grant.specs.Says.{grant_of}
use Rattle.grant.specs.declared.Grant as code
use Rattle.grant.specs.declared.Grants.{Grants}

-- what the code's item says
abbrev pub item_says : Result code.Grant Refusal → Answer Grant
item_says item = then (says item) λ g. answer (grant_of g)

-- what was read, and what comes after it
abbrev pub item_then : Answer GrantRead → (ℕ → List (Answer Grant)) → List (Answer Grant)
item_then (answer g) rest = answer g.grant ∷ rest g.next
item_then (refused n) rest = refused n ∷ []

-- at most `most` of them, from a position to the bytes' end
unfoldable pub items_from : ℕ → List ℕ → ℕ → List (Answer Grant)
items_from zero bytes at = []
items_from (suc most) bytes at = cond (leb (length bytes) at) [] (item_then (grant_at bytes at) (items_from most bytes))

abbrev pub items_of : List ℕ → List (Answer Grant)
items_of bytes = items_from (length bytes) bytes 0

abbrev pub items_left : Grants → List (Answer Grant)
items_left s = items_from (length s.bytes.now - s.at) s.bytes.now s.at
