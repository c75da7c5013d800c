use Rattle.std.proofs.Common.{◌≡◌, length, ap, ◌∙◌, arith}
use Rattle.std.specs.Option.{ok_or}
use Rattle.rules.specs.Says.{says}
use Rattle.rules.specs.declared.Refusal.TheVariants.{IdUnknown}
use Rattle.table.specs.InUse.{columns_of}
use Rattle.table.specs.Places.{place_of}
use Rattle.order.proofs.Finding.{row_says}
use Rattle.order.proofs.row_of.Goals as goal

pub returns : goal.returns
returns c =
    let at : c.place_of-place.result ≡ place_of c.args.rows.id.now (length c.args.rows.id.now) c.args.id = c.place_of-place.ensures ∙ rw (c.id.ensures, c.len.ensures) in
    ap says (c.ok_or.ensures.value ∙ ap (λ o. ok_or o IdUnknown) c.get.ensures) ∙ row_says (columns_of c.args.rows) (length c.args.rows.id.now) c.args.id (omega arith) at
