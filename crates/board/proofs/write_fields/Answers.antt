-- Four fields, one after another.
use Rattle.std.proofs.Common.{arith}
use Rattle.grant.specs.Says.{grant_of}
use Rattle.board.proofs.Laws.{in_time, feature_length, first_length, last_length, fields_written}
use Rattle.board.proofs.write_fields.Goals as goal

pub write_first-requires : goal.write_first-requires
write_first-requires c =
    let a = c.write_feature.ensures in
    ((in_time c.args.day (grant_of c.args.g) c.requires.0).0, omega (arith, c.requires.1, a.place, a.same_length, feature_length c.args.g.feature))

pub write_last-requires : goal.write_last-requires
write_last-requires c =
    let a = c.write_feature.ensures in
    let b = c.write_first.ensures in (
      (in_time c.args.day (grant_of c.args.g) c.requires.0).1,
      omega (arith, c.requires.1, a.place, a.same_length, b.place, b.same_length, feature_length c.args.g.feature, first_length c.args.day (grant_of c.args.g)),
    )

pub write_state-requires : goal.write_state-requires
write_state-requires c =
    let a = c.write_feature.ensures in
    let b = c.write_first.ensures in
    let d = c.write_last.ensures in
    let g = grant_of c.args.g in
    omega (arith, c.requires.1, a.place, a.same_length, b.place, b.same_length, d.place, d.same_length, feature_length c.args.g.feature, first_length c.args.day g, last_length c.args.day g)

pub returns : goal.returns
returns c =
    fields_written c.args.day (grant_of c.args.g) c.requires.1 c.write_feature.ensures c.write_first.ensures c.write_last.ensures
    (rw c.from.ensures at c.write_state.ensures)
