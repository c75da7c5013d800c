-- Lists of ids: how often one comes, and a test over them.
use Rattle.std.specs.Prelude.{Bool, List, [], ◌∷◌, ℕ, ◌+◌, eqb}
use Rattle.std.specs.List.{list_any}
use Rattle.rules.specs.Pick.{pick}

unfoldable pub times_in : ℕ → List ℕ → ℕ
times_in x [] = 0
times_in x (y ∷ s) = pick (eqb x y) 1 0 + times_in x s

abbrev pub some_id : (ℕ → Bool) → List ℕ → Bool
some_id p s = list_any p s
