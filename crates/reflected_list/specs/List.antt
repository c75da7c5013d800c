-- What the program writes: the list, or nothing where the tree is refused.
use Rattle.std.specs.Prelude.{List, [], ℕ}
use Rattle.rules.specs.Answers.{Answer, answer, refused}
use Rattle.reflected_tree.specs.Reflected.{Reflected}
use Rattle.reflected_tree.specs.Written.{list_bytes}

unfoldable pub list_or_none : Answer Reflected → List ℕ
list_or_none (answer t) = list_bytes t
list_or_none (refused n) = []
