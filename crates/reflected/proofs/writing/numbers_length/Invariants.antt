-- The numbers that are left make the whole.
use Rattle.std.proofs.Common.{◌≡◌, ◌+◌, length, drop}
use Rattle.reflected.specs.Inside.Writing.{numbers_bytes}
use Rattle.reflected.proofs.writing.numbers_length.Given as goal

abbrev pub invariant-loop-number : goal.invariant-loop-number
invariant-loop-number l = l.bytes + length (numbers_bytes (drop l.number-index l.numbers)) ≡ length (numbers_bytes l.numbers)
