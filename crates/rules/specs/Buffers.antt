-- Bytes written into a lent buffer (RULES.md, 2): a writer answers the byte count, and bytes after it in the buffer stay.
use Rattle.std.specs.Prelude.{ℕ, ◌+◌, ◌<◌, Bool, cond, List, ◌++◌, leb, length, take, drop, get_or}
use Rattle.rules.specs.Answers.{Answer, answer, refused}

-- the buffer holds the bytes from position `at` on
unfoldable pub room : List ℕ → ℕ → List ℕ → Bool
room buffer at bytes = leb (at + length bytes) (length buffer)

-- the writer's answer: the byte count; 30 where the buffer is shorter than the bytes needed
unfoldable pub written : List ℕ → ℕ → List ℕ → Answer ℕ
written buffer at bytes = cond (room buffer at bytes) (answer (length bytes)) (refused 30)

-- the buffer after: the bytes stand at `at`, and those before and after them stay; refused, the buffer is as it was
unfoldable pub after : List ℕ → ℕ → List ℕ → List ℕ
after buffer at bytes = cond (room buffer at bytes) (take at buffer ++ bytes ++ drop (at + length bytes) buffer) buffer

-- a list of bytes
abbrev pub Bytes : List ℕ → Type 0
Bytes bytes = (i : ℕ) → get_or bytes i 0 < 256
