-- A request without its trees.
use Rattle.std.specs.Prelude.{Bool, true, false}
use Rattle.rules.specs.Answers.{Answer, answer, then}
use Rattle.request.specs.Forest.{Direction, upright, inverted}
use Rattle.request.specs.Numbering.{whole, size}
use Rattle.request.specs.Request.{Request}
use Rattle.reading.specs.declared.Summary.{Summary}

abbrev pub is_upright : Direction → Bool
is_upright upright = true
is_upright inverted = false

-- how many entries its trees have, and all their quota
abbrev pub summary : Answer Request → Answer Summary
summary found = then found λ q. answer (record { exploded = q.exploded; upright = is_upright q.direction; entries = size q.trees; quota = whole q.trees })
