-- `page::write_lines` meets its contract. The loop's invariant: the lines of what is still to be read complete the page.
use Rattle.grant.specs.Items.{items_left}
use Rattle.page.proofs.Writing.{Left}
use Rattle.page.proofs.write_lines.Given as goal

abbrev pub invariant-loop-item : goal.invariant-loop-item
invariant-loop-item l = Left l.pass.l.0 l.pass.r.0 l.day l.grants l.whole l.initial.writer l.writer (items_left l.item-iterator)
