-- `lines::fields::write_field` meets its contract: the digits, and then one byte.
use Rattle.lines.proofs.Laws.{field_written}
use Rattle.lines.proofs.fields.write_field.Goals as goal

pub returns : goal.returns
returns c = field_written c.args.n c.args.last c.write_decimal.ensures.wrote c.byte.ensures.wrote c.requires
