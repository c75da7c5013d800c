-- The ids are those of the tree's groups.
use Rattle.std.proofs.Common.{ap, ◌∙◌, not, arith}
use Rattle.std.proofs.lemmas.List.{take_all}
use Rattle.std.proofs.Math.ListN.{length-set}
use Rattle.std.specs.List.{flat_map}
use Rattle.distinct.specs.Distinct.{all_differ}
use Rattle.reflected.proofs.Ids.{own_ids, leaf_more, inner_more, held_repeats}
use Rattle.reflected.proofs.repeating.id_repeats.Goals as goal
use Rattle.reflected.proofs.repeating.id_repeats.Goals.{then-node-gt0, else-node-gt0}

pub loop-node-preserved : goal.loop-node-preserved
loop-node-preserved c =
    let i = c.loop-node.invariant in
    elim c.if-node-gt0.branch [
      | then-node-gt0 w ↦
          rw (w.ids-is, w.next-is) (record {
            places = length-set _ _ _ ∙ length-set _ _ _ ∙ i.places;
            ids_are = inner_more _ _ _ _ _ c.loop-node-test.true i.ids_are (omega arith) (omega arith);
            few = omega arith;
          })
      | else-node-gt0 w ↦
          rw (w.ids-is, w.next-is) (record {
            places = length-set _ _ _ ∙ i.places;
            ids_are = leaf_more _ _ _ _ _ c.loop-node-test.true i.ids_are (omega arith) (omega arith);
            few = omega arith;
          })
    ]

pub returns : goal.returns
returns c t h e =
    ap not (c.ids_differ.ensures ∙ ap all_differ (c.loop-node.invariant.ids_are ∙ ap (flat_map own_ids) (take_all _ _ c.loop-node-test.false)))
    ∙ held_repeats c.args.nodes.now c.args.count t h e
