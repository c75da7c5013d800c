-- `small_requests::small_requests`: the list is the requests of the two directions, one after the other.
use Prim.Native.Nat.{◌≤◌}
use native.Mathlib.Omega.{arith}
use Rattle.std.proofs.Common.{rules}
use lib.ListN.{length}
use Rattle.rules.proofs.Buffers.{kept}
use Rattle.small.specs.Small.{greatest_size, list_bytes}
use Rattle.small_requests.proofs.Rows.{byte_count, byte_count_fits}
use Rattle.small_requests.proofs.Directions.{none_written, first_fits, second_fits, all_written}
use Rattle.small_requests.proofs.small_requests.Goals as goal

pub returns-then-size-gt-GREATEST_SIZE : goal.returns-then-size-gt-GREATEST_SIZE
returns-then-size-gt-GREATEST_SIZE c =
    let p = none_written c.args.buffer.now c.args.size c.if-size-gt-GREATEST_SIZE.true in record { result_value = p.0; buffer_value = p.1 }

pub overflow_mul-count-2 : goal.overflow_mul-count-2
overflow_mul-count-2 c =
    let h : c.args.size ≤ greatest_size = c.if-size-gt-GREATEST_SIZE.false in
    omega (arith, byte_count_fits c.args.size h c.request_count.ensures)

pub returns-then-buffer-count : goal.returns-then-buffer-count
returns-then-buffer-count c =
    let b = byte_count c.args.size c.if-size-gt-GREATEST_SIZE.false c.request_count.ensures in
    let p = kept c.args.buffer.now 0 (list_bytes c.args.size) (omega (arith, b, c.if-buffer-count.true)) in
    record { result_value = p.0; buffer_value = p.1 }

pub write_direction-requires-clause-size_in_bounds : goal.write_direction-requires-clause-size_in_bounds
write_direction-requires-clause-size_in_bounds c =
    let h : c.args.size ≤ greatest_size = c.if-size-gt-GREATEST_SIZE.false in
    let f : length (list_bytes c.args.size) ≤ length c.args.buffer.now = omega (arith, byte_count c.args.size h c.request_count.ensures, c.if-buffer-count.false) in
    let n = c.new-writer.ensures in
    rw (n.0, n.1) (first_fits c.args.buffer.now c.args.size h f)

pub write_direction-requires-2-clause-size_in_bounds : goal.write_direction-requires-2-clause-size_in_bounds
write_direction-requires-2-clause-size_in_bounds c =
    let h : c.args.size ≤ greatest_size = c.if-size-gt-GREATEST_SIZE.false in
    let f : length (list_bytes c.args.size) ≤ length c.args.buffer.now = omega (arith, byte_count c.args.size h c.request_count.ensures, c.if-buffer-count.false) in
    let n = c.new-writer.ensures in
    let e = c.write_direction.ensures in
    second_fits c.args.buffer.now c.args.size h f (rw (n.1) at e.place) (rw (n.0, n.1) at e.buffer)

pub returns : goal.returns
returns c =
    let h : c.args.size ≤ greatest_size = c.if-size-gt-GREATEST_SIZE.false in
    let b = byte_count c.args.size h c.request_count.ensures in
    let f : length (list_bytes c.args.size) ≤ length c.args.buffer.now = omega (arith, b, c.if-buffer-count.false) in
    let n = c.new-writer.ensures in
    let e = c.write_direction.ensures in
    let p = all_written c.args.buffer.now c.args.size h f b (rw (n.1) at e.place) (rw (n.0, n.1) at e.buffer) c.write_direction-2.ensures.buffer in
    record { result_value = p.0; buffer_value = rw (← p.1) (search rules) }
