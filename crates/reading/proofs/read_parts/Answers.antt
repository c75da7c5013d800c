-- The three draws, each part in its order, and the first refusal met.
use Rattle.std.proofs.Common.{ap, sym, arith}
use Rattle.std.proofs.lemmas.Result.{err_from_is_err_and}
use Rattle.rules.specs.Says.{says}
use Rattle.reader.specs.Drawing.{Draws}
use Rattle.reader.proofs.Drawing.{draws}
use Rattle.reading.proofs.Parts.{Begun, refusal, no_exploded, no_direction, odd_direction, no_count, no_trees, remain, read_whole}
use Rattle.reading.proofs.Walking.{walk_refused}
use Rattle.reading.proofs.read_parts.Goals as goal
use Rattle.reading.proofs.read_parts.Goals.{After-draw-third, After-read_trees}

three : (c : After-draw-third) → Draws c.args.bytes.now 0 (says c.draw-first.result) (says c.draw-second.result) (says c.draw-third.result) c.draw-third.new.self.at
three c =
    draws (ap (λ b. b.now) c.new-reader.ensures.0) c.new-reader.ensures.1
    c.draw-first.ensures.value c.draw-first.ensures.place (ap (λ b. b.now) c.draw-first.ensures.same)
    c.draw-second.ensures.value c.draw-second.ensures.place (ap (λ b. b.now) c.draw-second.ensures.same)
    c.draw-third.ensures.value c.draw-third.ensures.place

begun : (c : After-read_trees) → Begun (says c.draw-first.result) (says c.draw-second.result) (says c.draw-third.result) c.in_ok-exploded.exploded c.in_ok-direction.direction c.in_ok-trees.trees
begun c = record {
  exploded_is = c.in_ok-exploded.ensures;
  direction_is = sym (ap says c.in_ok-direction.was);
  known = omega arith;
  trees_are = c.in_ok-trees.ensures;
}

pub returns-in_err-exploded : goal.returns-in_err-exploded
returns-in_err-exploded c =
    let p = err_from_is_err_and c.from_residual.result c.from_residual.ensures.1 in
    let r = refusal c.args.bytes.now _ _ (no_exploded (three (goal.at.returns-in_err-exploded c).After-draw-third) c.in_err-exploded.ensures) in
    record { result_value = rw (p.1, p.2) r.0; request_in = r.1 }

pub returns-in_err-direction : goal.returns-in_err-direction
returns-in_err-direction c =
    let p = err_from_is_err_and c.from_residual-in_err-direction.result c.from_residual-in_err-direction.ensures.1 in
    let r = refusal c.args.bytes.now _ _
    (no_direction (three (goal.at.returns-in_err-direction c).After-draw-third) c.in_ok-exploded.ensures (sym (ap says c.in_err-direction.was))) in
    record { result_value = rw (p.1, p.2) r.0; request_in = r.1 }

pub returns-then-direction-gt1 : goal.returns-then-direction-gt1
returns-then-direction-gt1 c =
    let r = refusal c.args.bytes.now _ _
    (odd_direction (three (goal.at.returns-then-direction-gt1 c).After-draw-third) c.in_ok-exploded.ensures (sym (ap says c.in_ok-direction.was))
    c.if-direction-gt1.true) in
    record { result_value = r.0; request_in = r.1 }

pub returns-in_err-trees : goal.returns-in_err-trees
returns-in_err-trees c =
    let p = err_from_is_err_and c.from_residual-in_err-trees.result c.from_residual-in_err-trees.ensures.1 in
    let r = refusal c.args.bytes.now _ _
    (no_count (three (goal.at.returns-in_err-trees c).After-draw-third) c.in_ok-exploded.ensures (sym (ap says c.in_ok-direction.was)) (omega arith)
    c.in_err-trees.ensures) in
    record { result_value = rw (p.1, p.2) r.0; request_in = r.1 }

pub returns-in_err-end : goal.returns-in_err-end
returns-in_err-end c =
    let p = err_from_is_err_and c.from_residual-in_err-end.result c.from_residual-in_err-end.ensures.1 in
    let r = refusal c.args.bytes.now _ _
    (no_trees (three (goal.at.returns-in_err-end c).After-draw-third) (begun (goal.at.returns-in_err-end c).After-read_trees)
    (walk_refused _ c.in_err-end.ensures.result_value)) in
    record { result_value = rw (p.1, p.2) r.0; request_in = r.1 }

pub returns-then-end-bytes : goal.returns-then-end-bytes
returns-then-end-bytes c =
    let r = refusal c.args.bytes.now _ _
    (remain (three (goal.at.returns-then-end-bytes c).After-draw-third) (begun (goal.at.returns-then-end-bytes c).After-read_trees)
    c.in_ok-end.ensures.result_value c.if-end-bytes.true) in
    record { result_value = r.0; request_in = r.1 }

pub returns : goal.returns
returns c =
    let r = read_whole (three (goal.at.returns c).After-draw-third) (begun (goal.at.returns c).After-read_trees) c.in_ok-end.ensures.result_value
    c.if-end-bytes.false _ _ c.in_ok-end.ensures.walked in
    record { result_value = r.0; request_in = r.1 }
