-- What numbering leaves in the columns: a request's entries in its order, each with its id, its quota, and its numbers in a plane of the
-- request's own, where l and r begin at 0.
use Rattle.std.specs.Prelude.{◌≡◌, cond, List, [], map, ℕ, leb}
use Rattle.std.proofs.lemmas.List.Edits.{sets}
use Rattle.rules.specs.Answers.{Answer, answer, refused}
use Rattle.rules.specs.Limits.{greatest}
use Rattle.request.specs.Entries.{Entry, quota}
use Rattle.request.specs.Numbering.{whole, lefts, rights}
use Rattle.request.specs.Request.{Request, entries}
use Rattle.reading.specs.Work.{zeros, no_work}
use Rattle.numbering.specs.declared.Numbered.{Numbered}

-- the values stand in a lent column, `old` as the call began and `new` as it returned, from its first place on, and what it had past them stays
abbrev pub Begins : (old new : List ℕ) → List ℕ → Type 0
Begins old new values = new ≡ sets old 0 values

-- a column of the entries after the call: it begins with what `f` has of each entry, and what it had past them stays; refused, every number is 0
abbrev pub entries_after : (Entry → ℕ) → Answer Request → List ℕ → List ℕ
entries_after f (answer q) column = sets column 0 (map f (entries q))
entries_after f (refused n) column = zeros

-- the entries' ids and quotas (ids, quotas: as they were before; ids', quotas': after)
abbrev pub EntriesIn : Answer Request → (ids ids' quotas quotas' : List ℕ) → Type 0
EntriesIn found ids ids' quotas quotas' = (ids' ≡ entries_after (λ e. e.id) found ids) × (quotas' ≡ entries_after quota found quotas)

-- the quotas before each entry in L and in R; none are given out where all the quotas together pass the greatest number
abbrev pub left_numbers : Answer Request → List ℕ
left_numbers (answer q) = cond (leb (whole q.trees) greatest) (lefts q.direction 0 q.trees) []
left_numbers (refused n) = []

abbrev pub right_numbers : Answer Request → List ℕ
right_numbers (answer q) = cond (leb (whole q.trees) greatest) (rights q.direction 0 q.trees) []
right_numbers (refused n) = []

-- columns with every number 0
abbrev pub no_numbers : Numbered
no_numbers = record { work = no_work; l = zeros; r = zeros }
