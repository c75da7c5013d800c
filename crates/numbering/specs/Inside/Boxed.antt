-- Numbering the trees that stand in the work columns.
use Rattle.std.specs.Prelude.{◌≡◌, Bool, cond, List, [], ℕ, zero, suc, ◌+◌, ◌-◌, ◌≤◌, leb, ltb, length, get_or}
use Rattle.rules.specs.Limits.{greatest}
use Rattle.boxes.specs.declared.Box.{Box}
use Rattle.request.specs.Entries.{entry}
use Rattle.request.specs.Forest.{Forest, none, tree, Direction}
use Rattle.request.specs.Numbering.{whole, size}
use Rattle.reading.specs.declared.columns.Work.{Work}
use Rattle.reading.specs.Inside.Work.{TreesIn, direction_by}

-- the trees of the entries from an index up to another, `most` at most: their ids and quotas, and where their subtrees end
unfoldable pub trees_of : (most : ℕ) (w : Work) (from to : ℕ) → Forest
trees_of zero w from to = none
trees_of (suc most) w from to =
    cond (ltb from to)
    (tree (entry (get_or w.ids from 0) (get_or w.quotas from 0)) (trees_of most w (from + 1) (get_or w.ends from 0)) (trees_of most w (get_or w.ends from 0) to))
    none

abbrev pub forest_in : (w : Work) (from to : ℕ) → Forest
forest_in w from to = trees_of (to - from) w from to

-- a forest that stands in the work columns has a box of its quota; `ls` and `rs` are the parts that its numbers fill
pub record Boxed (w : Work) (from to l r quota : ℕ) (ls rs : List ℕ) (t : Forest) : Type 0 where
  pub stored : TreesIn w from t
  pub ends_at : to ≡ from + size t
  pub fits : whole t ≡ quota
  pub l_end : l + quota ≤ greatest + 1
  pub r_end : r + quota ≤ greatest + 1
  pub l_part : length ls ≡ size t
  pub r_part : length rs ≡ size t

abbrev pub BoxedIn : (w : Work) (from to : ℕ) (area : Box) (ls rs : List ℕ) → Type 0
BoxedIn w from to area ls rs = Boxed w from to area.l.0 area.r.0 area.quota ls rs (forest_in w from to)

-- the first n entries are the trees of a request's own plane
pub record Held (w : Work) (n quota : ℕ) : Type 0 where
  pub stored : TreesIn w 0 (forest_in w 0 n)
  pub ends_at : n ≡ size (forest_in w 0 n)
  pub fits : quota ≡ whole (forest_in w 0 n)

-- the numbers of a forest in a plane that begins at 0, where its quotas together are at most the greatest number
abbrev pub numbers_of : (Direction → ℕ → Forest → List ℕ) → Bool → Forest → List ℕ
numbers_of numbers up t = cond (leb (whole t) greatest) (numbers (direction_by up) 0 t) []
