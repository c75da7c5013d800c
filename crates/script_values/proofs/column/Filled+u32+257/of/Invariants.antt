-- What is to come from here is the whole.
use Rattle.std.proofs.Common.{◌≡◌}
use Rattle.script.specs.Items.{items_left}
use Rattle.script_values.specs.Column.{column_from, column_of}
use Rattle.script_values.proofs.column.Filled+u32+257.of.Given as goal

abbrev pub invariant-loop-item : goal.invariant-loop-item
invariant-loop-item l = column_from l.name (items_left l.item-iterator) l.column ≡ column_of l.line l.name
