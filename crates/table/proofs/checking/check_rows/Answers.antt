-- `table::checking::check_rows` meets its contract: 11, then 12, then 13.
use Rattle.std.proofs.Common.{not, ap, sym, ◌≡◌, ◌∙◌}
use Rattle.table.specs.Check.{sound_rows}
use Rattle.distinct.specs.Distinct.{all_differ}
use Rattle.separate.specs.Separate.{boxes_of, all_disjoint}
use Rattle.table.proofs.Separation.{disjoint_of, twelve_in_use, thirteen_in_use}
use Rattle.table.proofs.checking.check_rows.Goals as goal

pub returns-then-some_value_bad : goal.returns-then-some_value_bad
unfolding sound_rows
returns-then-some_value_bad c = rw (sym c.some_value_bad.ensures ∙ c.if-some_value_bad.true)

pub returns-then-not-ids_differ : goal.returns-then-not-ids_differ
unfolding sound_rows
returns-then-not-ids_differ c =
    rw (sym c.some_value_bad.ensures ∙ c.if-some_value_bad.false, twelve_in_use c.args.rows (c.ids_differ.ensures ∙ ap all_differ c.id.ensures) (ap not c.if-not-ids_differ.true))

pub returns-then-not-boxes_separate : goal.returns-then-not-boxes_separate
unfolding sound_rows
returns-then-not-boxes_separate c =
    let e : c.boxes_separate.result ≡ all_disjoint (boxes_of c.args.rows.l.now c.args.rows.r.now c.args.rows.q.now) =
    c.boxes_separate.ensures ∙ disjoint_of c.l.ensures c.r.ensures c.q.ensures in
    rw (
      sym c.some_value_bad.ensures ∙ c.if-some_value_bad.false,
      twelve_in_use c.args.rows (c.ids_differ.ensures ∙ ap all_differ c.id.ensures) (ap not c.if-not-ids_differ.false),
      thirteen_in_use c.args.rows e (ap not c.if-not-boxes_separate.true),
    )

pub returns : goal.returns
unfolding sound_rows
returns c =
    let e : c.boxes_separate.result ≡ all_disjoint (boxes_of c.args.rows.l.now c.args.rows.r.now c.args.rows.q.now) =
    c.boxes_separate.ensures ∙ disjoint_of c.l.ensures c.r.ensures c.q.ensures in
    rw (
      sym c.some_value_bad.ensures ∙ c.if-some_value_bad.false,
      twelve_in_use c.args.rows (c.ids_differ.ensures ∙ ap all_differ c.id.ensures) (ap not c.if-not-ids_differ.false),
      thirteen_in_use c.args.rows e (ap not c.if-not-boxes_separate.false),
    )
