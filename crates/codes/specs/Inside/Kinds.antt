-- The number of each of the code's kinds (RULES.md, 17).
use Rattle.std.specs.Prelude.{ℕ}
use Rattle.codes.specs.declared.Kind.{Kind}
use Rattle.codes.specs.declared.Kind.TheVariants as kind

abbrev pub kind_number : Kind → ℕ
kind_number kind.Refused = 0
kind_number kind.Count = 1
kind_number kind.Same = 2
kind_number kind.First = 3
kind_number kind.Second = 4
kind_number kind.Incomparable = 5
kind_number kind.OnOpen = 6
kind_number kind.OnUntil = 7
kind_number kind.Ended = 8
kind_number kind.Ahead = 9
kind_number kind.Never = 10
