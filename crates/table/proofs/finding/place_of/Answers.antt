use Rattle.std.proofs.Common.{ap, ◌∙◌}
use Rattle.std.specs.Option.{unwrap_or}
use Rattle.table.proofs.Places.{place_position}
use Rattle.table.proofs.finding.place_of.Goals as goal

pub returns : goal.returns
returns c = c.unwrap_or.ensures ∙ ap (λ o. unwrap_or o c.args.n) c.position_of.ensures ∙ place_position c.args.column.now c.args.n c.args.x
