-- A writer that writes bytes one after another into a lent buffer (RULES.md, 2).
use Rattle.std.specs.Prelude.{ℕ, ◌+◌, ◌≡◌, ◌≤◌, cond, List, length}
use Rattle.rules.specs.Buffers.{room, after}
use Rattle.writer.specs.declared.Writer.{Writer}

-- the buffer has room for so many bytes from the writer's place on
abbrev pub HasRoom : Writer → ℕ → Type 0
HasRoom w n = w.at + n ≤ length w.buffer.now

-- the place after some bytes; where the buffer is too short for them, the place stays
unfoldable pub place_after : List ℕ → ℕ → List ℕ → ℕ
place_after buffer at bytes = cond (room buffer at bytes) (at + length bytes) at

-- a writer wrote the bytes, or is as it was where the buffer is too short for them
pub record Wrote (old new : Writer) (bytes : List ℕ) : Type 0 where
  pub buffer : new.buffer.now ≡ after old.buffer.now old.at bytes
  pub place : new.at ≡ place_after old.buffer.now old.at bytes
  pub same_reference : new.buffer.ghost_name ≡ old.buffer.ghost_name

-- a writer that had room for the bytes wrote them, and stands past them
pub record WroteAll (old new : Writer) (bytes : List ℕ) : Type 0 where
  pub buffer : new.buffer.now ≡ after old.buffer.now old.at bytes
  pub place : new.at ≡ old.at + length bytes
  pub same_length : length new.buffer.now ≡ length old.buffer.now
  pub same_reference : new.buffer.ghost_name ≡ old.buffer.ghost_name
