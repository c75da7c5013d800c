use Rattle.script_values.proofs.Laws.{number_wrote}
use Rattle.script_values.proofs.putting.put_number.Goals as goal

pub returns-clause-value : goal.returns-clause-value
returns-clause-value c = number_wrote _ c.narrow.ensures c.write_number.ensures.wrote
