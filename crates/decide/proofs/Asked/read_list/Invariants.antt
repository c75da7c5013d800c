-- `decide::Asked::read_list` meets its contract. The loop's invariant: what is still to be read, with the tally so far, gives the whole reading.
use mathlib.Core.Path.{◌≡◌}
use Rattle.grant.specs.Items.{items_left}
use Rattle.decide.specs.Inside.ListReading.{list_read}
use Rattle.decide.proofs.Outcome.{outcome}
use Rattle.decide.proofs.Asked.read_list.Given as goal

abbrev pub invariant-loop-item : goal.invariant-loop-item
invariant-loop-item l =
    outcome l.self.feature l.self.pass.l.0 l.self.pass.r.0 l.self.day (items_left l.item-iterator) l.t
    ≡ list_read l.self.feature l.self.pass.l.0 l.self.pass.r.0 l.self.day l.grants l.initial.t
