-- How often the windows are read. Their order matters for that alone.
use Rattle.std.specs.Prelude.{ℕ, zero, suc, ◌+◌, ◌<◌, ◌≤◌, ◌≡◌, false, List, [], ◌∷◌, ◌⊎◌, length}
use Rattle.matching.specs.Matching.{Window}
use Rattle.dating.specs.Inside.Tally.{counted_in, unsettled, unread, again}
use Rattle.dating.specs.declared.Tally.{Tally}

-- the tally after n readings
unfoldable pub readings : (n day : ℕ) → List Window → Tally → Tally
readings zero day ws t = t
readings (suc n) day ws t = readings n day ws (counted_in day (again t) ws)

-- n readings are enough: no other one is needed
abbrev pub Enough : (n day : ℕ) → List Window → Type 0
Enough n day ws = unsettled (readings n day ws (unread day)) ≡ false

-- never more readings than windows, and one
abbrev pub FewEnough : (day : ℕ) → List Window → Type 0
FewEnough day ws = (n : ℕ) × (n ≤ length ws + 1) × Enough n day ws

-- the windows come in the order of their first days, from day d on
abbrev pub InOrder : ℕ → List Window → Type 0
InOrder d [] = Unit {0}
InOrder d (w ∷ ws) = (d ≤ w.first) × InOrder w.first ws

-- nothing follows on from day u: no window that began by `day` ends after day u (an open one has last day 0), and each of the others begins
-- later than the day after u
abbrev pub NoneFollows : (day u : ℕ) → List Window → Type 0
NoneFollows day u [] = Unit {0}
NoneFollows day u (w ∷ ws) = (((w.first ≤ day) × (w.last ≤ u)) ⊎ (u + 1 < w.first)) × NoneFollows day u ws
