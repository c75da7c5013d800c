-- Printed lines as bytes.
use Rattle.std.specs.Prelude.{ℕ, List, [], ◌∷◌, ◌++◌}
use Prim.Native.String.{String}
use Rattle.text.specs.Letters.{letters}

-- a line feed after every line
abbrev pub lines : List String → List ℕ
lines [] = []
lines (s ∷ t) = letters s ++ (10 ∷ lines t)
