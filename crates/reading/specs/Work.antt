-- The work columns of a request: its entries in its order, each with its id, its quota, where its subtree ends and its subtree's quota.
use Rattle.std.specs.Prelude.{◌≡◌, length, List, ℕ, ◌+◌, set, replicate}
use Rattle.rules.specs.Answers.{Answer, answer, refused}
use Rattle.rules.specs.Capacities.{entry_capacity}
use Rattle.request.specs.Entries.{quota}
use Rattle.request.specs.Forest.{Forest, none, tree}
use Rattle.request.specs.Numbering.{whole, size}
use Rattle.request.specs.Request.{Request}
use Rattle.reading.specs.declared.columns.Work.{Work}

abbrev pub work : List ℕ → List ℕ → List ℕ → List ℕ → Work
work ids quotas ends sums = record { ids = ids; quotas = quotas; ends = ends; sums = sums }

-- an entry written at an index: its id, its quota, the index after its subtree, its subtree's quota
abbrev pub enter : Work → ℕ → ℕ → ℕ → ℕ → ℕ → Work
enter w at id quota end sum = work (set w.ids at id) (set w.quotas at quota) (set w.ends at end) (set w.sums at sum)

-- the work columns once a forest's entries are written from an index on
abbrev pub filled : Work → ℕ → Forest → Work
filled w at none = w
filled w at (tree e c r) = filled (filled (enter w at e.id (quota e) (at + 1 + size c) (quota e + whole c)) (at + 1) c) (at + 1 + size c) r

-- a work column with every number 0
abbrev pub zeros : List ℕ
zeros = replicate entry_capacity 0

-- work columns with every number 0
abbrev pub no_work : Work
no_work = work zeros zeros zeros zeros

-- the work columns after a request was read: its entries are written from the first place on; refused, every number is 0
abbrev pub work_after : Answer Request → Work → Work
work_after (answer q) w = filled w 0 q.trees
work_after (refused n) w = no_work

-- every work column has n places
pub record Places (n : ℕ) (w : Work) : Type 0 where
  pub in_ids : length w.ids ≡ n
  pub in_quotas : length w.quotas ≡ n
  pub in_ends : length w.ends ≡ n
  pub in_sums : length w.sums ≡ n
