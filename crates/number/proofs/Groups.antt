-- The cases of the two definitions, each from the facts on numbers that lead to it.
use mathlib.Core.Path.{◌≡◌, refl}
use mathlib.Core.Bool.{Bool, true, false}
use mathlib.Core.List.{List, [], ◌∷◌}
use Prim.Native.Nat.{ℕ, zero, suc, ◌+◌, ◌*◌, ◌/◌, ◌%◌, ◌<◌, ◌≤◌}
use native.Mathlib.Omega.{arith}
use lib.ListN.{length, get_or}
use borrow.Author.Tests.{lt-ltb, le-ltb, le-leb, lt-leb, ne_eqb}
use Rattle.rules.specs.Answers.{refused}
use Rattle.number.specs.Number.{found, last_byte, added_to, followed, bit_groups_at, bit_groups_of}

module _ (bytes : List ℕ) (at : ℕ) where
  pub short : (k : ℕ) (only : Bool) → length bytes ≤ at → bit_groups_at k only bytes at ≡ refused 1
  unfolding bit_groups_at
  short zero only h = rw (le-leb _ _ h)
  short (suc k) only h = rw (le-leb _ _ h)

  pub last : (k : ℕ) (only : Bool) → at < length bytes → get_or bytes at 0 < 128 → bit_groups_at (suc k) only bytes at ≡ last_byte only (get_or bytes at 0) at
  unfolding bit_groups_at
  last k only h l = rw (lt-leb _ _ h, lt-ltb _ _ l)

  pub more : (k : ℕ) (only : Bool) → at < length bytes → 128 ≤ get_or bytes at 0
      → bit_groups_at (suc k) only bytes at ≡ followed (get_or bytes at 0) (bit_groups_at k false bytes (at + 1))
  unfolding bit_groups_at
  more k only h l = rw (lt-leb _ _ h, le-ltb _ _ l)

  pub fifth : (only : Bool) → at < length bytes → get_or bytes at 0 ≤ 15 → bit_groups_at 0 only bytes at ≡ last_byte only (get_or bytes at 0) at
  unfolding bit_groups_at
  fifth only h l = rw (lt-leb _ _ h, le-ltb _ _ l)

  pub fifth_above : (only : Bool) → at < length bytes → 15 < get_or bytes at 0 → bit_groups_at 0 only bytes at ≡ refused 2
  unfolding bit_groups_at
  fifth_above only h l = rw (lt-leb _ _ h, lt-ltb _ _ l)

pub last_only : (byte at : ℕ) → last_byte true byte at ≡ found byte (at + 1)
unfolding last_byte
last_only byte at = refl

pub last_zero : (at : ℕ) → last_byte false 0 at ≡ refused 2
unfolding last_byte
last_zero at = refl

pub last_positive : (only : Bool) (byte at : ℕ) → (byte ≡ 0 → ⊥) → last_byte only byte at ≡ found byte (at + 1)
unfolding last_byte
last_positive true byte at h = refl
last_positive false byte at h = rw (ne_eqb _ _ h)

pub followed_found : (byte value next : ℕ) → followed byte (found value next) ≡ found (byte % 128 + 128 * value) next
unfolding followed added_to
followed_found byte value next = refl

pub followed_refused : (byte n : ℕ) → followed byte (refused n) ≡ refused n
unfolding followed added_to
followed_refused byte n = refl

-- the groups of a small value, and of a greater one
pub one_group : (k value : ℕ) → value < 128 → bit_groups_of k value ≡ value ∷ []
unfolding bit_groups_of
one_group zero value h = refl
one_group (suc k) value h = rw (lt-ltb _ _ h)

pub more_groups : (k value : ℕ) → 128 ≤ value → bit_groups_of (suc k) value ≡ (value % 128 + 128) ∷ bit_groups_of k (value / 128)
unfolding bit_groups_of
more_groups k value h = rw (le-ltb _ _ h)

pub last_groups : (value : ℕ) → bit_groups_of 0 value ≡ value ∷ []
unfolding bit_groups_of
last_groups value = refl

-- values below this have at most k bytes after their first
abbrev pub cap : ℕ → ℕ
cap zero = 16
cap (suc k) = 128 * cap k

pub cap_pos : (k : ℕ) → 0 < cap k
cap_pos zero = omega arith
cap_pos (suc k) = omega (arith, cap_pos k)
