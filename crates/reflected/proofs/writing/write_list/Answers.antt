use Rattle.std.proofs.Common.{◌+◌, ◌-◌}
use Rattle.reflected.specs.Inside.Writing.{node_in, own_at, sized_all}
use Rattle.reflected.proofs.Parts.{left_all, left_room, left_next, left_none}
use Rattle.reflected.proofs.Written.{requests_at, list_of, requests_next, requests_none, pair_bytes, list_parts}
use Rattle.reflected.proofs.Standing.{sound_all, list_stored, list_written}
use Rattle.reflected.proofs.writing.write_list.Goals as goal

pub write_numbers-requires : goal.write_numbers-requires
write_numbers-requires c =
    let s = c.args.nodes.now in
    let n = c.args.count in
    left_room (pair_bytes (node_in s 0)) (sized_all (requests_at s 0 (n - 0))) (list_parts s n) (left_all c.args.writer.now (list_of s n) (rw (list_stored s c.requires.0) c.requires.1))

pub loop-i-init : goal.loop-i-init
loop-i-init c =
    let s = c.args.nodes.now in
    let n = c.args.count in
    left_next (list_parts s n) (left_all c.args.writer.now (list_of s n) (rw (list_stored s c.requires.0) c.requires.1)) c.write_numbers.ensures

pub write_own-requires : goal.write_own-requires
write_own-requires c =
    let s = c.args.nodes.now in
    let n = c.args.count in
    let i = c.loop-i.i in (
      sound_all s c.requires.0 c.told-nodes i c.loop-i-test.true,
      left_room (sized_all (own_at s i)) (sized_all (requests_at s (i + 1) (n - (i + 1)))) (requests_next s i n c.loop-i-test.true) c.loop-i.invariant,
    )

pub loop-i-preserved : goal.loop-i-preserved
loop-i-preserved c = left_next (requests_next c.args.nodes.now c.loop-i.i c.args.count c.loop-i-test.true) c.loop-i.invariant c.write_own.ensures

pub returns : goal.returns
returns c = list_written c.args.nodes.now (left_none (requests_none c.args.nodes.now c.loop-i.i c.args.count c.loop-i-test.false) c.loop-i.invariant)
