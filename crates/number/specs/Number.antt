-- Stored numbers (RULES.md, 2): groups of seven bits, lowest group first; the top bit of a byte is set when another byte follows.
use Rattle.std.specs.Prelude.{ℕ, zero, suc, ◌+◌, ◌*◌, ◌/◌, ◌%◌, Bool, true, false, cond, not, ◌&&◌, List, [], ◌∷◌, eqb, leb, ltb, length, get_or}
use Rattle.rules.specs.Answers.{Answer, answer, refused, then}
use Rattle.number.specs.declared.Number.{Number}

-- a number that stands in bytes: its value, and the position after its last byte
abbrev pub found : ℕ → ℕ → Answer Number
found value next = answer (record { value = value; next = next })

-- the number whose last byte is `byte` at position `at`. 2: a last byte 00 that isn't the only one
unfoldable pub last_byte : Bool → ℕ → ℕ → Answer Number
last_byte only byte at = cond (not only && eqb byte 0) (refused 2) (found byte (at + 1))

-- the number of `low` and what stands above it, of which each one counts for `unit`
unfoldable pub added_to : ℕ → ℕ → Answer Number → Answer Number
added_to low unit rest = then rest λ n. found (low + unit * n.value) n.next

-- the number whose first byte is `byte`, which another follows: its group is the lowest
unfoldable pub followed : ℕ → Answer Number → Answer Number
followed byte rest = added_to (byte % 128) 128 rest

-- what the byte at a position leads to. 1: bytes end before the number does
abbrev pub with_byte : List ℕ → ℕ → (ℕ → Answer Number) → Answer Number
with_byte bytes at next = cond (leb (length bytes) at) (refused 1) (next (get_or bytes at 0))

-- the number from position `at` on, where `more` bytes may follow the one there, and `only` says that none of the number's bytes stands before it.
-- 2: fifth byte above 15, found as it is read
unfoldable pub bit_groups_at : ℕ → Bool → List ℕ → ℕ → Answer Number
bit_groups_at zero only bytes at = with_byte bytes at λ byte. cond (ltb 15 byte) (refused 2) (last_byte only byte at)
bit_groups_at (suc more) only bytes at =
    with_byte bytes at λ byte. cond (ltb byte 128) (last_byte only byte at) (followed byte (bit_groups_at more false bytes (at + 1)))

-- the number that stands at a position of some bytes: 1 to 5 bytes
unfoldable pub number_at : List ℕ → ℕ → Answer Number
number_at bytes at = bit_groups_at 4 true bytes at

-- the groups of a value, where `more` bytes may follow the first
unfoldable pub bit_groups_of : ℕ → ℕ → List ℕ
bit_groups_of zero value = value ∷ []
bit_groups_of (suc more) value = cond (ltb value 128) (value ∷ []) ((value % 128 + 128) ∷ bit_groups_of more (value / 128))

-- the bytes of a value up to the greatest, in the shortest form
unfoldable pub bytes_of : ℕ → List ℕ
bytes_of value = bit_groups_of 4 value
