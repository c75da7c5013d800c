-- The cases of a box that is cut.
use mathlib.Core.Path.{◌≡◌}
use mathlib.Core.Bool.{Bool, true, false, ◌||◌}
use Prim.Native.Nat.{ℕ, ◌+◌, ◌-◌, ◌≤◌, ◌<◌}
use native.Mathlib.Omega.{arith}
use lib.Dec.{ltb}
use borrow.Author.Tests.{lt-ltb, le-ltb, ltb-false}
use Rattle.rules.proofs.Bools.{or_none}
use Rattle.coordinates.specs.Coordinates.{past, onward}
use Rattle.coordinates.proofs.Ranges.{not_past, reached}
use Rattle.boxes.specs.Boxes.{box_of, cut_into, next_child, corner_of, inner_of, corner_cut}
use Rattle.boxes.specs.declared.Box.{Box}
use Rattle.std.specs.Prelude.{None}

module _ (b : Box) (q : ℕ) where
  pub too_small : b.quota < q → None ≡ next_child b q
  unfolding next_child
  too_small h = rw (lt-ltb _ _ h)

  pub too_far : q ≤ b.quota → (past (b.l.0 + q) || past (b.r.0 + (b.quota - q))) ≡ true → None ≡ next_child b q
  unfolding next_child
  too_far h e = rw (le-ltb _ _ h, e)

  pub parts : q ≤ b.quota → b.l.0 + q ≤ 18446744073709551615 → b.r.0 + (b.quota - q) ≤ 18446744073709551615
      → cut_into (box_of b.l.0 (b.r.0 + (b.quota - q)) q) (box_of (b.l.0 + q) b.r.0 (b.quota - q)) ≡ next_child b q
  unfolding next_child
  parts h k m = rw (le-ltb _ _ h, le-ltb _ _ k, le-ltb _ _ m)

  -- the parts, with the sums that the code makes
  pub next_parts : q ≤ b.quota → b.l.0 + q ≤ 18446744073709551615 → b.r.0 + (b.quota - q) ≤ 18446744073709551615
      → cut_into (box_of b.l.0 (onward b.r.0 (b.quota - q)) q) (box_of (onward b.l.0 q) b.r.0 (b.quota - q)) ≡ next_child b q
  next_parts h k m = rw (reached b.l.0 q k, reached b.r.0 (b.quota - q) m) (parts h k m)

  pub corner_none : (up : Bool) → (ltb b.quota q || (past (b.l.0 + b.quota) || past (b.r.0 + b.quota))) ≡ true → None ≡ corner_cut up b q
  unfolding corner_cut
  corner_none up e = rw e

  pub corner_parts : (up : Bool) → q ≤ b.quota → b.l.0 + b.quota ≤ 18446744073709551615 → b.r.0 + b.quota ≤ 18446744073709551615
      → cut_into (corner_of up b q) (inner_of up b q) ≡ corner_cut up b q
  unfolding corner_cut
  corner_parts up h k m = rw (le-ltb _ _ h, le-ltb _ _ k, le-ltb _ _ m)

  -- a corner and the rest, with the sums that the code makes
  pub corner_low : q ≤ b.quota → b.l.0 + b.quota ≤ 18446744073709551615 → b.r.0 + b.quota ≤ 18446744073709551615
      → cut_into (box_of b.l.0 b.r.0 q) (box_of (onward b.l.0 q) (onward b.r.0 q) (b.quota - q)) ≡ corner_cut true b q
  corner_low h k m = rw (reached b.l.0 q (omega arith), reached b.r.0 q (omega arith)) (corner_parts true h k m)

  pub corner_high : q ≤ b.quota → b.l.0 + b.quota ≤ 18446744073709551615 → b.r.0 + b.quota ≤ 18446744073709551615
      → cut_into (box_of (onward b.l.0 (b.quota - q)) (onward b.r.0 (b.quota - q)) q) (box_of b.l.0 b.r.0 (b.quota - q)) ≡ corner_cut false b q
  corner_high h k m = rw (reached b.l.0 (b.quota - q) (omega arith), reached b.r.0 (b.quota - q) (omega arith)) (corner_parts false h k m)

  pub corner_whole : {s t : Bool} → s ≡ past (b.l.0 + b.quota) → t ≡ past (b.r.0 + b.quota) → (ltb b.quota q || (s || t)) ≡ false
      → (q ≤ b.quota) × ((b.l.0 + b.quota ≤ 18446744073709551615) × (b.r.0 + b.quota ≤ 18446744073709551615))
  corner_whole e f g = let h = or_none _ _ g in (ltb-false _ _ h.0, not_past e f h.1)
