-- `replay::write_answer`: there is room for the line.
use Rattle.std.proofs.Common.{◌≡◌, arith, rules}
use Rattle.rules.specs.Says.{says}
use Rattle.writer.proofs.Writing.{wrote_all}
use Rattle.lines.proofs.Laws.{line_most}
use Rattle.replay.proofs.write_answer.Goals as goal

pub returns : goal.returns
returns c =
    let s : says c.map-line.result ≡ says c.args.a = search rules in
    wrote_all (rw s at c.write_line.ensures.wrote) (omega (arith, line_most (says c.args.a)))
