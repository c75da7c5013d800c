-- The table is checked, the request is read and numbered, and judged.
use Rattle.std.proofs.Common.{◌≡◌, ◌<◌, length, map, take, sym, arith}
use Rattle.std.proofs.Math.Seq.{length-take-le}
use Rattle.std.proofs.lemmas.Result.{err_from_is_err_and}
use Rattle.rules.specs.Answers.{answer}
use Rattle.request.specs.Request.{entries}
use Rattle.table.specs.Check.{checked}
use Rattle.table.specs.Columns.{columns, rows}
use Rattle.judging.proofs.Accepting.{judged_row}
use Rattle.refine.specs.Refine.{refined}
use Rattle.refine.proofs.Accepting.{row_there, row_is}
use Rattle.refine.proofs.Carrying.{given, unread, ids_front, quotas_front, ids_length, quotas_length, judged_refused, settles}
use Rattle.refine.proofs.refining.judge_request.Goals as goal

pub returns-in_err-read : goal.returns-in_err-read
returns-in_err-read c =
    let cols = columns c.args.id.now c.args.l.now c.args.r.now c.args.q.now in
    let good : checked cols (length c.args.sound.id.now) ≡ answer (rows cols (length c.args.sound.id.now)) = c.requires.good in
    let p = err_from_is_err_and c.from_residual.result c.from_residual.ensures.1 in
    rw (p.1, p.2) (unread cols (length c.args.sound.id.now) c.args.request.now good c.in_err-read.ensures.result_value)

pub shared_ref_as_front-ids : goal.shared_ref_as_front-ids
shared_ref_as_front-ids c =
    let g = given c.args.request.now c.in_ok-read.ensures.result_value in
    omega (arith, g.entries_most)

-- what was judged are the ids and quotas of the rows in use
pub returns-in_err-own : goal.returns-in_err-own
returns-in_err-own c =
    let cols = columns c.args.id.now c.args.l.now c.args.r.now c.args.q.now in
    let good : checked cols (length c.args.sound.id.now) ≡ answer (rows cols (length c.args.sound.id.now)) = c.requires.good in
    let g = given c.args.request.now c.in_ok-read.ensures.result_value in
    let front : take c.in_ok-read.read.entries c.number_request.new.numbered.work.ids ≡ map (λ e. e.id) (entries g.request) =
    ids_front g c.args.numbered.now.work.ids c.number_request.new.numbered.work.ids c.args.numbered.now.work.quotas c.number_request.new.numbered.work.quotas c.number_request.ensures.entries_in c.requires.ids_len.0 in
    let k = c.requires.cut in
    let j = rw (c.id.ensures, k.id, c.q.ensures, k.q) at c.in_err-own.ensures in
    let p = err_from_is_err_and c.from_residual-in_err-own.result c.from_residual-in_err-own.ensures.1 in
    rw (p.1, p.2) (judged_refused cols (length c.args.sound.id.now) good g c.number_request.new.numbered.work.ids front j)

-- its row is one of them
pub unwrap-old-requires : goal.unwrap-old-requires
unwrap-old-requires c =
    let k = c.requires.cut in
    let j = rw (c.id.ensures, k.id, c.q.ensures, k.q) at c.in_ok-own.ensures in
    let h = (judged_row (take (length c.args.sound.id.now) c.args.id.now) (take (length c.args.sound.id.now) c.args.q.now) (length c.args.id.now) c.in_ok-read.read.exploded
    (take c.in_ok-read.read.entries c.number_request.new.numbered.work.ids) c.in_ok-read.read.quota (sym j)).1 in
    let there : c.in_ok-own.own < (length c.args.sound.id.now) = omega (arith, h, length-take-le (length c.args.sound.id.now) c.args.id.now k.within) in
    row_there k there c.get.ensures

pub returns : goal.returns
returns c =
    let cols = columns c.args.id.now c.args.l.now c.args.r.now c.args.q.now in
    let good : checked cols (length c.args.sound.id.now) ≡ answer (rows cols (length c.args.sound.id.now)) = c.requires.good in
    let g = given c.args.request.now c.in_ok-read.ensures.result_value in
    let w = c.number_request.new.numbered in
    let e = c.number_request.ensures.entries_in in
    let n = c.requires.ids_len in
    let b = c.requires.l_len in
    let front : take c.in_ok-read.read.entries w.work.ids ≡ map (λ e. e.id) (entries g.request) =
    ids_front g c.args.numbered.now.work.ids w.work.ids c.args.numbered.now.work.quotas w.work.quotas e n.0 in
    let k = c.requires.cut in
    let j = rw (c.id.ensures, k.id, c.q.ensures, k.q) at c.in_ok-own.ensures in
    let h = (judged_row (take (length c.args.sound.id.now) c.args.id.now) (take (length c.args.sound.id.now) c.args.q.now) (length c.args.id.now) c.in_ok-read.read.exploded
    (take c.in_ok-read.read.entries w.work.ids) c.in_ok-read.read.quota (sym j)).1 in
    let there : c.in_ok-own.own < (length c.args.sound.id.now) = omega (arith, h, length-take-le (length c.args.sound.id.now) c.args.id.now k.within) in
    rw c.len.ensures
    (settles cols (length c.args.sound.id.now) good g w.work.ids front j c.args.numbered.now.l w.l c.args.numbered.now.r w.r c.number_request.ensures.begins.0 c.number_request.ensures.begins.1 b.0 b.1
    (λ i. omega (arith, c.type_inv.request i)) w.work.quotas
    (quotas_front g c.args.numbered.now.work.ids w.work.ids c.args.numbered.now.work.quotas w.work.quotas e n.1) (ids_length g c.args.numbered.now.work.ids w.work.ids c.args.numbered.now.work.quotas w.work.quotas e n.0)
    (quotas_length g c.args.numbered.now.work.ids w.work.ids c.args.numbered.now.work.quotas w.work.quotas e n.1)
    (row_is k there c.get.ensures c.unwrap-old.ensures))
