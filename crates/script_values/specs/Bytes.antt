-- The bytes that a script's line gives, item by item.
use Rattle.std.specs.Prelude.{ℕ, zero, suc, ◌+◌, ◌-◌, cond, List, [], ◌∷◌, ◌==◌, nat_lt, length, slice_set, slice_index, Option, None, Some}
use Rattle.rules.specs.Answers.{or_else}
use Rattle.rules.specs.Buffers.{written, after}
use Rattle.writer.specs.declared.Writer.{Writer}
use Rattle.number.specs.Number.{bytes_of}
use Rattle.script.specs.Items.{items_of}
use Rattle.script.specs.declared.Item.{Item}
use Rattle.script.specs.declared.Item.TheVariants.{Word, Number}
use Rattle.script_values.specs.Values.{narrowed}
use Rattle.script_values.specs.declared.filled.Filled.{Filled}

abbrev pub Bytes : Type 0
Bytes = Filled ℕ 65536

-- a buffer, and how many of its bytes are given
pub record Given : Type 0 where
  pub count : ℕ
  pub bytes : List ℕ

-- by a writer: those before its place
abbrev pub given_by : Writer → Given
given_by w = record { count = w.at; bytes = w.buffer.now }

-- a byte, a stored number, and an entry of quota 1 with no children, after the bytes that are given
unfoldable pub byte_put : ℕ → Given → Given
byte_put byte g = cond (nat_lt g.count (length g.bytes)) (record { count = g.count + 1; bytes = slice_set g.bytes g.count byte }) g

unfoldable pub number_put : ℕ → Given → Given
number_put v g =
    record { count = g.count + or_else (written g.bytes g.count (bytes_of (narrowed v))) 0; bytes = after g.bytes g.count (bytes_of (narrowed v)) }

abbrev pub entry_put : ℕ → Given → Given
entry_put id g = number_put 0 (number_put 1 (number_put id g))

-- the bytes from a position on, again and again until there are so many, in the room that is left
unfoldable pub until_from : ℕ → ℕ → ℕ → Given → Given
until_from zero end at g = g
until_from (suc left) end at g =
    cond (nat_lt at g.count) (cond (nat_lt g.count end) (until_from left end (at + 1) (byte_put (slice_index g.bytes at) g)) g) g

unfoldable pub bytes_until : ℕ → ℕ → Given → Given
bytes_until end from g = until_from (length g.bytes - g.count) end from g

-- a number by its section's first letter: `bytes`, `numbers`, `entries`, `until`
unfoldable pub item_put : Option ℕ → ℕ → ℕ → ℕ → Given → Given
item_put None value byte from g = g
item_put (Some section) value byte from g =
    cond (section == 98) (byte_put byte g)
    (cond (section == 110) (number_put value g) (cond (section == 101) (entry_put value g) (cond (section == 117) (bytes_until value from g) g)))

-- where `until` goes back to after a word: `until` leaves it at the word before it
abbrev pub from_word : Option ℕ → ℕ → Given → ℕ
from_word None from g = g.count
from_word (Some word) from g = cond (word == 117) from g.count

-- the numbers of a line
unfoldable pub bytes_from : List Item → ℕ → Given → Given
bytes_from [] from g = g
bytes_from (Number section value byte ∷ items) from g = bytes_from items from (item_put section value byte from g)
bytes_from (Word word ∷ items) from g = bytes_from items (from_word word from g) g

-- in a buffer, and in the place of those that an array had before
abbrev pub bytes_of_line : List ℕ → List ℕ → Given
bytes_of_line line buffer = bytes_from (items_of line) 0 (record { count = 0; bytes = buffer })

abbrev pub filled_with : List ℕ → Bytes → Bytes
filled_with line before = let g = bytes_of_line line before.items in record { items = g.bytes; len = g.count }
