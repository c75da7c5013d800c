-- The three draws, and the first refusal met.
use Rattle.std.proofs.Common.{ap, sym}
use Rattle.std.proofs.lemmas.Result.{err_from_is_err_and}
use Rattle.rules.specs.Says.{says}
use Rattle.reader.specs.Drawing.{Draws}
use Rattle.reader.proofs.Drawing.{draws}
use Rattle.entries.proofs.Parts.{no_id, no_quota, no_children, all_drawn}
use Rattle.entries.proofs.entry_at.Goals as goal
use Rattle.entries.proofs.entry_at.Goals.{After-draw-third}

three : (c : After-draw-third) → Draws c.args.bytes.now c.args.at (says c.draw-first.result) (says c.draw-second.result) (says c.draw-third.result) c.draw-third.new.self.at
three c =
    draws (ap (λ b. b.now) c.new-reader.ensures.0) c.new-reader.ensures.1
    c.draw-first.ensures.value c.draw-first.ensures.place (ap (λ b. b.now) c.draw-first.ensures.same)
    c.draw-second.ensures.value c.draw-second.ensures.place (ap (λ b. b.now) c.draw-second.ensures.same)
    c.draw-third.ensures.value c.draw-third.ensures.place

pub returns-in_err-id : goal.returns-in_err-id
returns-in_err-id c =
    let p = err_from_is_err_and c.from_residual.result c.from_residual.ensures.1 in
    rw (p.1, p.2) (no_id (three (goal.at.returns-in_err-id c).After-draw-third) c.in_err-id.ensures)

pub returns-in_err-quota : goal.returns-in_err-quota
returns-in_err-quota c =
    let p = err_from_is_err_and c.from_residual-in_err-quota.result c.from_residual-in_err-quota.ensures.1 in
    rw (p.1, p.2) (no_quota (three (goal.at.returns-in_err-quota c).After-draw-third) c.in_ok-id.ensures c.in_err-quota.ensures)

pub returns-in_err-children : goal.returns-in_err-children
returns-in_err-children c =
    let p = err_from_is_err_and c.from_residual-in_err-children.result c.from_residual-in_err-children.ensures.1 in
    rw (p.1, p.2)
    (no_children (three (goal.at.returns-in_err-children c).After-draw-third) c.in_ok-id.ensures c.in_ok-quota.ensures (sym (ap says c.in_err-children.was)))

pub returns : goal.returns
returns c =
    all_drawn (three (goal.at.returns c).After-draw-third) c.in_ok-id.ensures c.in_ok-quota.ensures (sym (ap says c.in_ok-children.was))
