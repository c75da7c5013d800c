use Rattle.reflected.specs.Inside.Writing.{numbers_bytes}
use Rattle.reflected.proofs.Parts.{left_all, left_write, left_none}
use Rattle.reflected.proofs.Written.{numbers_next, numbers_none}
use Rattle.reflected.proofs.writing.write_numbers.Goals as goal

pub loop-number-init : goal.loop-number-init
loop-number-init c = left_all c.args.writer.now (numbers_bytes c.args.numbers.now) c.requires

pub loop-number-preserved : goal.loop-number-preserved
loop-number-preserved c =
    left_write (numbers_next c.args.numbers.now c.loop-number.number-index c.loop-number-test.true) c.loop-number.invariant c.write_number.ensures.wrote

pub returns : goal.returns
returns c = left_none (numbers_none c.args.numbers.now c.loop-number.number-index c.loop-number-test.false) c.loop-number.invariant
