-- What a line promises: its length, and that its state is what is decided where its grant is the only one that applies.
use Rattle.std.specs.Prelude.{ℕ, ◌≡◌, List, [], ◌∷◌, length}
use Rattle.text.specs.Letters.{letters}
use Rattle.grant.specs.Grant.{Grant}
use Rattle.matching.specs.Matching.{Window}
use Rattle.renewals.specs.Dating.{Decision, on_open, on_until, ended, ahead, never, dated}
use Rattle.board.specs.Board.{state_text, grant_line}

-- a decision's word
unfoldable pub word : Decision → List ℕ
word on_open = letters "on"
word (on_until day) = letters "on"
word (ended day) = letters "ended"
word (ahead day) = letters "ahead"
word never = []

abbrev pub LineBytes : Type 0
LineBytes = (day : ℕ) (g : Grant) → length (grant_line day g) ≡ 41

abbrev pub StateAlone : Type 0
StateAlone = (day : ℕ) (w : Window) → state_text day w ≡ word (dated day (w ∷ []))
