use Rattle.script_values.proofs.Laws.{byte_wrote}
use Rattle.script_values.proofs.putting.put_byte.Goals as goal

pub returns-clause-value : goal.returns-clause-value
returns-clause-value c = byte_wrote _ c.byte.ensures.wrote
