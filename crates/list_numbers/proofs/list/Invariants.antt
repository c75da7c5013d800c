-- Each number ends after the position where it starts.
use Rattle.std.proofs.Common.{◌-◌, length}
use Rattle.list_numbers.proofs.list.Given as goal

abbrev pub decreases-loop-at : goal.decreases-loop-at
decreases-loop-at g l = length l.bytes - l.at
