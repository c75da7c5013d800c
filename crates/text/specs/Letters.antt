-- Text of given characters.
use Rattle.std.specs.Prelude.{ℕ, List, [], ◌∷◌}
use Prim.Native.Char.{code}
use Prim.Native.String.{String, [] as []ᵀ, ◌∷◌ as ◌∷ᵀ◌}

-- the bytes of a text's characters, in ASCII
abbrev pub letters : String → List ℕ
letters []ᵀ = []
letters (c ∷ᵀ s) = code c ∷ letters s
