-- The table of first days: one test, computed over all of its entries, and the law that gives the leap-year rule at each.
use mathlib.Core.Path.{◌≡◌, ap, ◌∙◌}
use mathlib.Core.Bool.{Bool, true, ◌&&◌}
use mathlib.Core.List.{List, [], ◌∷◌}
use Prim.Native.Nat.{ℕ, zero, suc, ◌+◌, ◌<◌}
use native.Mathlib.Omega.{arith}
use lib.Dec.{eqb}
use lib.ListN.{length, get_or}
use borrow.Author.Tests.{eqb-true}
use Rattle.rules.proofs.Bools.{and_both}
use Rattle.calendar.specs.Inside.Years.{first_day}
use Rattle.dates.specs.Inside.Found.{entry_of}

-- the entries from year k on are first days, by the leap years before them
unfoldable pub first_days : ℕ → List ℕ → Bool
first_days k [] = true
first_days k (day ∷ days) = eqb day (first_day k) && first_days (suc k) days

from : (k : ℕ) (days : List ℕ) → first_days k days ≡ true → (i : ℕ) → i < length days → get_or days i 0 ≡ first_day (k + i)
unfolding first_days
from k [] e i h = absurd (omega arith)
from k (day ∷ days) e zero h = eqb-true _ _ (and_both (eqb day (first_day k)) _ e).0 ∙ ap first_day (omega arith)
from k (day ∷ days) e (suc i) h = from (suc k) days (and_both (eqb day (first_day k)) _ e).1 i (omega arith) ∙ ap first_day (omega arith)

pub entry_is : (days : List ℕ) → first_days 0 days ≡ true → (k : ℕ) → k < length days → entry_of days k ≡ first_day k
unfolding entry_of
entry_is days e k h = from 0 days e k h ∙ ap first_day (omega arith)
