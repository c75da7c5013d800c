-- `table::checking::some_value_bad` meets its contract.
use Rattle.std.proofs.Common.{rules, tests, ◌∙◌}
use Rattle.std.proofs.lemmas.Iterator.Consumers.{YieldsList-from_first}
use Rattle.std.proofs.lemmas.Iterator.Search.{any_from_yields_List}
use Rattle.table.specs.Check.{value_bad}
use Rattle.table.specs.InUse.{rows_of, rows_left}
use Rattle.table.proofs.Tests.{some_any}
use Rattle.table.proofs.checking.some_value_bad.Goals as goal

pub returns : goal.returns
returns c =
    any_from_yields_List value_bad c.any.new.self _ c.any.result c.any.ensures.ran (YieldsList-from_first (λ x. x) rows_left (rows_of c.args.rows) c.into_iter.ensures.into_iter_gives) (λ x b q k. search (rules, tests))
    ∙ some_any value_bad (rows_of c.args.rows)
