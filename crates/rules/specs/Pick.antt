-- One of two numbers, by a test.
use Rattle.std.specs.Prelude.{ℕ, Bool, true, false}

abbrev pub pick : Bool → ℕ → ℕ → ℕ
pick true a b = a
pick false a b = b
