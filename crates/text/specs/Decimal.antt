-- Decimal text: the ASCII digits of a number, without leading zeros.
use Rattle.std.specs.Prelude.{ℕ, zero, suc, ◌+◌, ◌/◌, ◌%◌, cond, List, [], ◌∷◌, ◌++◌, ltb}

-- the digits of a number, where `more` digits may stand before the last
unfoldable pub digits : ℕ → ℕ → List ℕ
digits zero n = (n + 48) ∷ []
digits (suc more) n = cond (ltb n 10) ((n + 48) ∷ []) (digits more (n / 10) ++ ((n % 10 + 48) ∷ []))

-- the digits of a number up to the greatest
unfoldable pub decimal : ℕ → List ℕ
decimal n = digits 9 n
