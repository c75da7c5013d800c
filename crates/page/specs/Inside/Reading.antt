-- The two readings of a page's list: how many lines the page has, and the lines.
use Rattle.std.specs.Prelude.{ℕ, ◌≡◌, List, [], length}
use Rattle.rules.specs.Answers.{Answer, answer, then, or_else}
use Rattle.grant.specs.Grant.{Grant, grants_by}
use Rattle.writer.specs.declared.Writer.{Writer}
use Rattle.writer.specs.Writing.{HasRoom}
use Rattle.page.specs.Page.{dated_grant_at, applying, page_text}

unfoldable pub lines_of : (l r : ℕ) → List ℕ → Answer ℕ
lines_of l r bytes = then (grants_by dated_grant_at bytes) λ gs. answer (length (applying l r gs))

-- the lines of a list that reads in
unfoldable pub lines_text : (l r day : ℕ) → List ℕ → List ℕ
lines_text l r day bytes = page_text l r day (or_else (grants_by dated_grant_at bytes) [])

-- the list reads in, its lines have so many bytes, and the writer has room for them
pub record Fits (l r day : ℕ) (bytes : List ℕ) (whole : ℕ) (w : Writer) : Type 0 where
  pub grants : List Grant
  pub reads : grants_by dated_grant_at bytes ≡ answer grants
  pub count : length (page_text l r day grants) ≡ whole
  pub room : HasRoom w whole
