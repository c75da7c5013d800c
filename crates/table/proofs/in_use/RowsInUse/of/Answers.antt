use Rattle.std.proofs.Common.{◌≡◌, true, length, sym, ap, refl, ◌∙◌, arith}
use Rattle.std.proofs.lemmas.List.{length-take-le}
use Rattle.rules.specs.Answers.{answer}
use Rattle.table.specs.Columns.{columns}
use Rattle.table.specs.Check.{count_bad, in_use}
use Rattle.table.specs.Inside.Held.{Holds}
use Rattle.table.proofs.Lengths.{lengths_good}
use Rattle.table.proofs.InUse.{held, taken_rows}
use Rattle.table.proofs.in_use.RowsInUse.of.Goals as goal

pub returns-then-lengths_bad-clause-rows : goal.returns-then-lengths_bad-clause-rows
unfolding in_use
returns-then-lengths_bad-clause-rows c = rw (sym c.lengths_bad.ensures ∙ c.if-lengths_bad.true)

pub returns-then-count_bad-clause-rows : goal.returns-then-count_bad-clause-rows
unfolding in_use
returns-then-count_bad-clause-rows c =
    let e : count_bad (length c.args.id.now) c.args.count ≡ true = sym c.count_bad.ensures ∙ c.if-count_bad.true in
    rw (sym c.lengths_bad.ensures ∙ c.if-lengths_bad.false, e)

pub slice_bounds-result-end : goal.slice_bounds-result-end
slice_bounds-result-end c =
    sym (length-take-le _ _ (held _ _ (sym c.lengths_bad.ensures ∙ c.if-lengths_bad.false) (sym c.count_bad.ensures ∙ c.if-count_bad.false)).in_id)

pub slice_bounds-result-end-2 : goal.slice_bounds-result-end-2
slice_bounds-result-end-2 c =
    sym (length-take-le _ _ (held _ _ (sym c.lengths_bad.ensures ∙ c.if-lengths_bad.false) (sym c.count_bad.ensures ∙ c.if-count_bad.false)).in_l)

pub slice_bounds-result-end-3 : goal.slice_bounds-result-end-3
slice_bounds-result-end-3 c =
    sym (length-take-le _ _ (held _ _ (sym c.lengths_bad.ensures ∙ c.if-lengths_bad.false) (sym c.count_bad.ensures ∙ c.if-count_bad.false)).in_r)

pub slice_bounds-result-end-4 : goal.slice_bounds-result-end-4
slice_bounds-result-end-4 c =
    sym (length-take-le _ _ (held _ _ (sym c.lengths_bad.ensures ∙ c.if-lengths_bad.false) (sym c.count_bad.ensures ∙ c.if-count_bad.false)).in_q)

pub invariant_of-result : goal.invariant_of-result
invariant_of-result c =
    let h : Holds (columns c.args.id.now c.args.l.now c.args.r.now c.args.q.now) c.args.count =
    held _ _ (sym c.lengths_bad.ensures ∙ c.if-lengths_bad.false) (sym c.count_bad.ensures ∙ c.if-count_bad.false) in
    let n = length-take-le c.args.count c.args.id.now h.in_id in
    let g = lengths_good (columns c.args.id.now c.args.l.now c.args.r.now c.args.q.now) (sym c.lengths_bad.ensures ∙ c.if-lengths_bad.false) in
    record {
      same_l = length-take-le c.args.count c.args.l.now h.in_l ∙ sym n;
      same_r = length-take-le c.args.count c.args.r.now h.in_r ∙ sym n;
      same_q = length-take-le c.args.count c.args.q.now h.in_q ∙ sym n;
      few = rw n (omega (arith, h.in_id, g.most));
    }

pub returns-clause-rows : goal.returns-clause-rows
unfolding in_use
returns-clause-rows c =
    let cols = columns c.args.id.now c.args.l.now c.args.r.now c.args.q.now in
    let h : Holds cols c.args.count = held cols _ (sym c.lengths_bad.ensures ∙ c.if-lengths_bad.false) (sym c.count_bad.ensures ∙ c.if-count_bad.false) in
    rw (sym c.lengths_bad.ensures ∙ c.if-lengths_bad.false, sym c.count_bad.ensures ∙ c.if-count_bad.false) (ap answer (taken_rows cols c.args.count h.in_id))

pub returns-clause-cut : goal.returns-clause-cut
returns-clause-cut c =
    let cols = columns c.args.id.now c.args.l.now c.args.r.now c.args.q.now in
    let h : Holds cols c.args.count = held cols _ (sym c.lengths_bad.ensures ∙ c.if-lengths_bad.false) (sym c.count_bad.ensures ∙ c.if-count_bad.false) in
    let g = lengths_good cols (sym c.lengths_bad.ensures ∙ c.if-lengths_bad.false) in
    record { id = refl; l = refl; r = refl; q = refl; within = h.in_id; same_l = g.in_l; same_r = g.in_r; same_q = g.in_q }
