use Rattle.reflected.proofs.Parts.{left_next, left_none}
use Rattle.reflected.proofs.Written.{walks_next, roots_next, roots_none}
use Rattle.reflected.proofs.writing.write_roots.Goals as goal

pub loop-done-preserved : goal.loop-done-preserved
loop-done-preserved c =
    let l = c.loop-done in
    let s = c.args.nodes.now in
    record {
      walks = (walks_next s l.place c.args.count l._done c.loop-done-test.true l.invariant.walks).1;
      wrote = left_next (roots_next s l.place c.args.count l._done c.loop-done-test.true) l.invariant.wrote c.write_numbers.ensures;
    }

pub returns : goal.returns
returns c = let l = c.loop-done in left_none (roots_none c.args.nodes.now l.place c.args.count l._done c.loop-done-test.false) l.invariant.wrote
