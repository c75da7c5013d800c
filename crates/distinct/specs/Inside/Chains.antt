-- Rows in chains, a chain for each slot. A link is a row and one, or 0 where the chain ends; the rows of a chain fall.
use Rattle.std.specs.Prelude.{ℕ, suc, ◌*◌, ◌/◌, ◌%◌, ◌≤◌, ◌<◌, ◌≡◌, Bool, true, false, List, get_or}

abbrev pub slots : ℕ
slots = 256

-- an id's slot
unfoldable pub slot_of : ℕ → ℕ
slot_of x = x * 2654435769 / 16777216 % 256

abbrev pub slot_at : List ℕ → ℕ → ℕ
slot_at ids i = slot_of (get_or ids i 0)

-- of the first `count` rows: a link leads to a row of the slot, and past no other of them
pub record Links (ids next : List ℕ) (count : ℕ) : Type 0 where
  pub falls : (k : ℕ) → k < count → get_or next k 0 ≤ k
  pub alike : (k : ℕ) → k < count → (m : ℕ) → get_or next k 0 ≡ suc m → slot_at ids m ≡ slot_at ids k
  pub covers : (k : ℕ) → k < count → (j : ℕ) → j < k → slot_at ids j ≡ slot_at ids k → j < get_or next k 0

-- and so does the first link of each slot
pub record Heads (ids head : List ℕ) (count : ℕ) : Type 0 where
  pub within : (h : ℕ) → h < slots → get_or head h 0 ≤ count
  pub alike : (h : ℕ) → h < slots → (m : ℕ) → get_or head h 0 ≡ suc m → slot_at ids m ≡ h
  pub covers : (j : ℕ) → j < count → j < get_or head (slot_at ids j) 0

-- what the search in a chain needs
pub record Chained (ids next : List ℕ) (count link x : ℕ) : Type 0 where
  pub links : Links ids next count
  pub within : link ≤ count
  pub alike : (m : ℕ) → link ≡ suc m → slot_at ids m ≡ slot_of x

-- what it says: one of the rows has the id, or none has it of those below the link in the id's slot
pub record InChain (ids : List ℕ) (count link x : ℕ) (t : Bool) : Type 0 where
  pub same : t ≡ true → (j : ℕ) × (j < count) × (get_or ids j 0 ≡ x)
  pub none : t ≡ false → (j : ℕ) → j < link → slot_at ids j ≡ slot_of x → get_or ids j 0 ≡ x → ⊥
