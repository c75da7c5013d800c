-- Trees in the work columns, and the walk that writes them.
use Rattle.std.specs.Prelude.{◌≡◌, Bool, true, false, ℕ, ◌+◌, ◌≤◌, get_or}
use Rattle.rules.specs.Answers.{Answer, answer, refused, then}
use Rattle.rules.specs.Limits.{greatest}
use Rattle.request.specs.Entries.{quota}
use Rattle.request.specs.Forest.{Forest, none, tree, Direction, upright, inverted}
use Rattle.request.specs.Numbering.{whole, size}
use Rattle.request.specs.Reading.{TreesRead}
use Rattle.request.specs.Request.{Request}
use Rattle.reading.specs.declared.WalkEnd.{WalkEnd}
use Rattle.reading.specs.declared.columns.Work.{Work}
use Rattle.reading.specs.Work.{filled}

-- the first entry of a tree: its id, its quota, the index after its subtree, its subtree's quota
pub record EntryIn (w : Work) (at id quota end sum : ℕ) : Type 0 where
  pub id_is : get_or w.ids at 0 ≡ id
  pub quota_is : get_or w.quotas at 0 ≡ quota
  pub end_is : get_or w.ends at 0 ≡ end
  pub sum_is : get_or w.sums at 0 ≡ sum

-- the work columns hold a forest's entries from an index on; each quota is at least 1 and at most the greatest number
abbrev pub TreesIn : Work → ℕ → Forest → Type 0
TreesIn w at none = Unit {0}
TreesIn w at (tree e c r) =
    EntryIn w at e.id (quota e) (at + 1 + size c) (quota e + whole c) × ((1 ≤ quota e) × (quota e ≤ greatest)) × TreesIn w (at + 1) c × TreesIn w (at + 1 + size c) r

-- where a walk over child counts came to: the next position, the next entry and the subtrees' quota
abbrev pub walk_end : Answer TreesRead → Answer WalkEnd
walk_end found = then found λ t. answer (record { next = t.next; used = t.used; quota = whole t.trees })

-- trees that were read are written to the work columns from the first free entry on
abbrev pub Walked : Answer TreesRead → ℕ → Work → Work → Type 0
Walked (answer t) used w v = v ≡ filled w used t.trees
Walked (refused n) used w v = Unit {0}

abbrev pub direction_by : Bool → Direction
direction_by true = upright
direction_by false = inverted

-- the trees of a request that was read are written to the work columns
abbrev pub RequestIn : Answer Request → Work → Work → Type 0
RequestIn (answer q) w v = v ≡ filled w 0 q.trees
RequestIn (refused n) w v = Unit {0}
