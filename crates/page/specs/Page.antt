-- A page for the shift board (RULES.md, 18): one line for each grant that applies to the pass, of any feature, in list order.
use Rattle.std.specs.Prelude.{ℕ, cond}
use mathlib.Core.List.{List, [], ◌∷◌, flat_map}
use Rattle.rules.specs.Answers.{Answer, answer, refused, then}
use Rattle.rules.specs.Buffers.{written, after}
use Rattle.grant.specs.Grant.{Grant, GrantReader, grant_at, grants_by}
use Rattle.matching.specs.Matching.{pass_bad, covers}
use Rattle.board.specs.Board.{grant_line, undated}

-- a grant of a page's list: 1, 2, 14, then 31, whether it applies or not
unfoldable pub dated_grant_at : GrantReader
dated_grant_at bytes at = then (grant_at bytes at) λ g. cond (undated g.grant) (refused 31) (answer g)

-- the grants that apply to the pass, of any feature, in list order
unfoldable pub applying : (l r : ℕ) → List Grant → List Grant
applying l r [] = []
applying l r (g ∷ gs) = cond (covers l r g) (g ∷ applying l r gs) (applying l r gs)

-- a line for each of them
unfoldable pub page_text : (l r day : ℕ) → List Grant → List ℕ
page_text l r day gs = flat_map (grant_line day) (applying l r gs)

-- Page: 15, then the whole list from left to right
unfoldable pub page_of : (l r day : ℕ) → List ℕ → Answer (List ℕ)
page_of l r day bytes = cond (pass_bad l r day) (refused 15) (then (grants_by dated_grant_at bytes) λ gs. answer (page_text l r day gs))

-- then 30, and the byte count
unfoldable pub page_answer : (l r day : ℕ) → (bytes buffer : List ℕ) → Answer ℕ
page_answer l r day bytes buffer = then (page_of l r day bytes) λ text. written buffer 0 text

-- the buffer after: refused, it is as it was
unfoldable pub page_buffer : Answer (List ℕ) → List ℕ → List ℕ
page_buffer (answer text) buffer = after buffer 0 text
page_buffer (refused n) buffer = buffer
