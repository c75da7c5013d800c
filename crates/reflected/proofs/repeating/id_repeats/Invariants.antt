-- The first ids are those of the nodes that were gone over.
use Rattle.std.proofs.Common.{◌≡◌, ◌≤◌, ◌*◌, length, take}
use Rattle.std.specs.List.{flat_map}
use Rattle.reflected.proofs.Ids.{own_ids}
use Rattle.reflected.proofs.repeating.id_repeats.Given as goal

abbrev pub invariant-loop-node : goal.invariant-loop-node
invariant-loop-node l = record { places : length l.ids ≡ 128; ids_are : take l.next l.ids ≡ flat_map own_ids (take l.node-index l.node-items); few : l.next ≤ 2 * l.node-index }
