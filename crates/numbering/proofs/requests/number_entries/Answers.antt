-- The trees in the box that begins at (0, 0).
use Rattle.std.proofs.Common.{◌≤◌, ◌∙◌, arith}
use Rattle.std.proofs.Math.Seq.{length-take-le}
use Rattle.rules.specs.Limits.{greatest}
use Rattle.request.specs.Numbering.{whole, lefts, rights}
use Rattle.numbering.specs.Inside.Boxed.{forest_in}
use Rattle.numbering.proofs.Columns.{numbered}
use Rattle.numbering.proofs.requests.number_entries.Goals as goal

pub returns-then-read : goal.returns-then-read
returns-then-read c =
    let n = c.args.read.entries in
    let t = forest_in c.args.work.now 0 n in
    let m : whole t ≤ greatest = omega (arith, c.if-read.true, c.requires.held.fits) in
    let in_bounds = c.requires.entries_in_bounds in
    let ll = c.number_trees.auto.l ∙ length-take-le n c.args.l.now in_bounds.1 in
    let rl = c.number_trees.auto.r ∙ length-take-le n c.args.r.now in_bounds.2 in
    record {
      begins = numbered c.args.l.now _ n lefts c.args.read.upright t (rw c.new-plane.ensures at c.number_trees.ensures.l_value) m ll in_bounds.1;
      begins_2 = numbered c.args.r.now _ n rights c.args.read.upright t (rw c.new-plane.ensures at c.number_trees.ensures.r_value) m rl in_bounds.2;
    }
