-- The numbers that are left make the whole.
use Rattle.std.proofs.Common.{drop}
use Rattle.reflected.specs.Inside.Writing.{numbers_bytes}
use Rattle.reflected.proofs.Parts.{Left}
use Rattle.reflected.proofs.writing.write_numbers.Given as goal

abbrev pub invariant-loop-number : goal.invariant-loop-number
invariant-loop-number l = Left l.initial.writer l.writer (numbers_bytes l.numbers) (numbers_bytes (drop l.number-index l.numbers))
