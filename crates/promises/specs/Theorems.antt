-- What an accepted request promises of the rows after it (RULES.md, 7).
use Rattle.std.specs.Prelude.{ℕ, ◌+◌, ◌-◌, ◌≤◌, ◌≡◌, Bool, true, List, ◌++◌, ◌≢◌, length}
use Rattle.rules.specs.Answers.{answer}
use Rattle.boxes.specs.Boxes.{box_of, contains, disjoint}
use Rattle.boxes.specs.declared.Box.{Box}
use Rattle.request.specs.Entries.{sum, times, quota_of, before, Same, without}
use Rattle.request.specs.Forest.{tree_order}
use Rattle.request.specs.Request.{Request, entries, left_of, right_of}
use Rattle.table.specs.declared.Row.{Row}
use Rattle.table.specs.Columns.{low_l, low_r, size_of, l_of, r_of}
use Rattle.table.specs.Check.{sound_rows}
use Rattle.order.specs.Order.{subgroup}
use Rattle.refine.specs.Refine.{groups_of, row_in}

-- x is one of the entries; one of the groups in some rows
abbrev pub IsEntry : Request → ℕ → Type 0
IsEntry q x = 1 ≤ times x (entries q)

abbrev pub GroupIn : List Row → ℕ → Type 0
GroupIn t x = 1 ≤ times x (groups_of t)

-- a group that is not exploded
abbrev pub OtherIn : Request → List Row → ℕ → Type 0
OtherIn q t x = (x ≢ q.exploded) × GroupIn t x

-- the quota of the group x in some rows; its box; x is a subgroup of y by their numbers
abbrev pub q_of : ℕ → List Row → ℕ
q_of x t = quota_of x (groups_of t)

abbrev pub box_in : List Row → ℕ → Box
box_in t x = let w = row_in x t in box_of (low_l w) (low_r w) (size_of w)

abbrev pub subgroup_in : List Row → ℕ → ℕ → Bool
subgroup_in t x y = subgroup (l_of x t) (r_of x t) (l_of y t) (r_of y t)

-- the box of the exploded group is divided: each entry's box lies in it, two entries' boxes are disjoint, and their sizes add up to its size
pub record Divided (q : Request) (t t' : List Row) : Type 0 where
  pub inside : (x : ℕ) → IsEntry q x → contains (box_in t q.exploded) (box_in t' x) ≡ true
  pub separate : (x y : ℕ) → x ≢ y → IsEntry q x → IsEntry q y → disjoint (box_in t' x) (box_in t' y) ≡ true
  pub sizes : sum (λ e. q_of e.id t') (entries q) ≡ q_of q.exploded t

-- what an accepted request promises of the rows t' after it, in columns with `room` rows that had the rows t before it
pub record Promises (room : ℕ) (q : Request) (t t' : List Row) : Type 0 where
  -- the rows are sound again, and there is room for them
  pub refined_sound : sound_rows t' ≡ answer t'
  pub refined_length : length t' ≡ length t + length (entries q) - 1
  pub refined_fits : length t' ≤ room
  -- the groups are those before without the exploded one, and the entries, with their quotas; the others keep their numbers
  pub refined_groups : Same (groups_of t') (without q.exploded (groups_of t) ++ entries q)
  pub kept : (x : ℕ) → OtherIn q t x → (l_of x t' ≡ l_of x t) × (r_of x t' ≡ r_of x t) × (q_of x t' ≡ q_of x t)
  -- an entry's numbers begin where the exploded group's did, after the quotas before it in L and in R
  pub entry_numbers : (x : ℕ) → IsEntry q x
      → (l_of x t' ≡ l_of q.exploded t + before x (left_of q)) × (r_of x t' ≡ r_of q.exploded t + before x (right_of q)) × (q_of x t' ≡ quota_of x (entries q))
  pub divided : Divided q t t'
  -- among the entries the order is that of the trees
  pub entries_order : (x y : ℕ) → IsEntry q x → IsEntry q y → subgroup_in t' x y ≡ tree_order q.direction q.trees x y
  -- an entry stands to every other group as the exploded group did, and the others stand to each other as they did
  pub entry_below : (x e : ℕ) → OtherIn q t x → IsEntry q e → subgroup_in t' e x ≡ subgroup_in t q.exploded x
  pub entry_above : (x e : ℕ) → OtherIn q t x → IsEntry q e → subgroup_in t' x e ≡ subgroup_in t x q.exploded
  pub others_order : (x y : ℕ) → OtherIn q t x → OtherIn q t y → subgroup_in t' x y ≡ subgroup_in t x y
