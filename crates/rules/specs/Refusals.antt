-- The number of each refusal (RULES.md, 12).
use Rattle.std.specs.Prelude.{ℕ}
use Rattle.rules.specs.declared.Refusal.{Refusal}
use Rattle.rules.specs.declared.Refusal.TheVariants as refusal

abbrev pub refusal_number : Refusal → ℕ
refusal_number refusal.NumberCut = 1
refusal_number refusal.NumberForm = 2
refusal_number refusal.Direction = 3
refusal_number refusal.Zero = 4
refusal_number refusal.Depth = 5
refusal_number refusal.BytesRemain = 6
refusal_number refusal.Entries = 7
refusal_number refusal.Columns = 10
refusal_number refusal.RowValue = 11
refusal_number refusal.RowIds = 12
refusal_number refusal.RowRanges = 13
refusal_number refusal.Grant = 14
refusal_number refusal.Question = 15
refusal_number refusal.IdUnknown = 20
refusal_number refusal.ExplodedEntry = 21
refusal_number refusal.IdTaken = 22
refusal_number refusal.QuotaSum = 23
refusal_number refusal.RowsFull = 24
refusal_number refusal.IdTwice = 26
refusal_number refusal.BufferShort = 30
refusal_number refusal.Undated = 31
refusal_number refusal.Nodes = 32
refusal_number refusal.IdRepeats = 33
