-- Boxes (RULES.md, 3): a group's box is the l range from l to l + q − 1 and the r range from r to r + q − 1.
use Rattle.std.specs.Prelude.{ℕ, ◌+◌, ◌-◌, Bool, true, false, cond, ◌&&◌, ◌||◌, ltb, Option, Some, None}
use Rattle.coordinates.specs.Coordinates.{l_value, r_value, past, within, apart}
use Rattle.boxes.specs.declared.Box.{Box}
use Rattle.boxes.specs.declared.Cut.{Cut}

abbrev pub box_of : ℕ → ℕ → ℕ → Box
box_of l r q = record { l = l_value l; r = r_value r; quota = q }

-- a box in two parts: one that is cut off, and what is left
abbrev pub cut_into : Box → Box → Option Cut
cut_into part rest = Some (record { part = part; rest = rest })

-- y lies in x
unfoldable pub contains : Box → Box → Bool
contains x y = within x.l.0 x.quota y.l.0 y.quota && within x.r.0 x.quota y.r.0 y.quota

-- the l ranges are disjoint, and so are the r ranges
unfoldable pub disjoint : Box → Box → Bool
disjoint x y = apart x.l.0 x.quota y.l.0 y.quota && apart x.r.0 x.quota y.r.0 y.quota

-- the next child of quota q: it has the lowest l part and the highest r part of the box; what is left has the others.
-- None where the box has less, or lies past 64 bits
unfoldable pub next_child : Box → ℕ → Option Cut
next_child b q =
    cond (ltb b.quota q || (past (b.l.0 + q) || past (b.r.0 + (b.quota - q))))
    None
    (cut_into (box_of b.l.0 (b.r.0 + (b.quota - q)) q) (box_of (b.l.0 + q) b.r.0 (b.quota - q)))

-- a parent in the box of its subtree: it stands at the low corner (true: upright) or the high corner (false: inverted)
abbrev pub corner_of : Bool → Box → ℕ → Box
corner_of true b own = box_of b.l.0 b.r.0 own
corner_of false b own = box_of (b.l.0 + (b.quota - own)) (b.r.0 + (b.quota - own)) own

-- and its children share the rest
abbrev pub inner_of : Bool → Box → ℕ → Box
inner_of true b own = box_of (b.l.0 + own) (b.r.0 + own) (b.quota - own)
inner_of false b own = box_of b.l.0 b.r.0 (b.quota - own)

-- the two parts. None where the box has less than the parent's own quota, or ends past 64 bits
unfoldable pub corner_cut : Bool → Box → ℕ → Option Cut
corner_cut up b own =
    cond (ltb b.quota own || (past (b.l.0 + b.quota) || past (b.r.0 + b.quota)))
    None
    (cut_into (corner_of up b own) (inner_of up b own))
