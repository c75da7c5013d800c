-- A date, and then one byte.
use Rattle.board.proofs.Laws.{date_written}
use Rattle.board.proofs.fields.write_first.Goals as goal

pub returns : goal.returns
returns c = date_written _ c.requires.0 c.requires.1 c.write_date.ensures.wrote c.byte.ensures.wrote
