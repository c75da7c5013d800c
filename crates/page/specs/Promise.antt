-- What a page promises: 41 bytes for each grant that applies.
use Rattle.std.specs.Prelude.{◌≡◌, List, ℕ, ◌*◌, length}
use Rattle.grant.specs.Grant.{Grant}
use Rattle.page.specs.Page.{applying, page_text}

abbrev pub PageBytes : Type 0
PageBytes = (l r day : ℕ) (gs : List Grant) → length (page_text l r day gs) ≡ 41 * length (applying l r gs)
