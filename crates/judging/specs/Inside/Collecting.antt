-- The ids but the exploded one, collected in one array.
use Rattle.std.specs.Prelude.{◌≡◌, cond, List, [], ◌∷◌, ℕ, ◌+◌, eqb, length}
use Rattle.std.proofs.lemmas.List.Edits.{sets}
use Rattle.rules.specs.Capacities.{row_capacity}

-- the length of the array: count + entries of a request that is accepted is at most this
abbrev pub id_capacity : ℕ
id_capacity = row_capacity + 1

-- the ids that are not u
unfoldable pub others_than : ℕ → List ℕ → List ℕ
others_than u [] = []
others_than u (x ∷ s) = cond (eqb u x) (others_than u s) (x ∷ others_than u s)

-- some numbers stand in an array from n on, up to m
pub record Collects (numbers : List ℕ) (n : ℕ) (all all' : List ℕ) (m : ℕ) : Type 0 where
  pub end : m ≡ n + length numbers
  pub are : all' ≡ sets all n numbers
