-- `page::count_lines` meets its contract. The loop's invariant: the lines so far, and those of what is still to be read, are all.
use mathlib.Core.Path.{◌≡◌}
use Prim.Native.Nat.{◌+◌, ◌≤◌}
use lib.ListN.{length}
use Rattle.grant.specs.Items.{items_left}
use Rattle.page.specs.Inside.Reading.{lines_of}
use Rattle.page.proofs.Listing.{lines}
use Rattle.page.proofs.count_lines.Given as goal

abbrev pub invariant-loop-item : goal.invariant-loop-item
invariant-loop-item l = record {
  few : l.lines + length (items_left l.item-iterator) ≤ length l.grants;
  all : lines l.pass.l.0 l.pass.r.0 (items_left l.item-iterator) l.lines ≡ lines_of l.pass.l.0 l.pass.r.0 l.grants;
}
