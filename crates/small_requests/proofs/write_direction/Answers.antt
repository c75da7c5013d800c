use mathlib.Core.Path.{◌≡◌, refl, sym, ◌∙◌}
use Prim.Native.Nat.{◌+◌, ◌*◌}
use native.Mathlib.Omega.{arith}
use lib.ListN.{set, length, length-set}
use borrow.Author.Rules.{rules}
use Rattle.small_requests.specs.Inside.Rows.{row_length}
use Rattle.small_requests.proofs.Directions.{fronted, front_long, direct_begins, direct_room, direct_again, direct_ends}
use Rattle.writer.proofs.Writing.{wrote_room}
use Rattle.small_requests.proofs.write_direction.Goals as goal

pub loop-trees-init : goal.loop-trees-init
loop-trees-init c =
    let a = c.args in
    let l = c.requires.row_len.0 in
    let row = set (set (set a.row.now 0 (3 + 3 * a.size)) 1 1) 2 a.direction in
    record {
      directing = direct_begins a.writer.now.buffer.now row a.writer.now.at a.direction a.size c.requires.size_in_bounds (fronted a.row.now (3 + 3 * a.size) 1 a.direction l)
          (front_long a.row.now (3 + 3 * a.size) 1 a.direction ∙ l);
      same_reference = refl;
    }

pub write_shapes-requires-clause-due_in_bounds : goal.write_shapes-requires-clause-due_in_bounds
write_shapes-requires-clause-due_in_bounds c = direct_room c.loop-trees.invariant.directing (omega arith) (omega arith)

pub loop-trees-preserved : goal.loop-trees-preserved
loop-trees-preserved c =
    let e = c.write_shapes.ensures in
    let i = c.loop-trees.invariant.directing in
    let s : length c.write_shapes.new.row ≡ row_length = search rules in
    record {
      directing = direct_again c.loop-trees.invariant.directing (omega arith) (omega arith) (omega arith) e.wrote.place e.wrote.buffer e.row_value (s ∙ sym (length-set c.loop-trees.row 3 c.loop-trees.trees ∙ i.long));
      same_reference = e.wrote.same_reference ∙ c.loop-trees.invariant.same_reference;
    }

-- no tree count
pub returns : goal.returns
returns c =
    let i = c.loop-trees.invariant in
    let e = direct_ends i.directing (omega arith) in
    wrote_room c.requires.size_in_bounds e.1 e.0 i.same_reference

-- after the last one
pub returns-2 : goal.returns-2
returns-2 c =
    let w = c.write_shapes.ensures in
    let i = c.loop-trees.invariant in
    let s : length c.write_shapes.new.row ≡ row_length = search rules in
    let d = direct_again i.directing (omega arith) (omega arith) {again = c.args.size} (omega arith) w.wrote.place w.wrote.buffer w.row_value (s ∙ sym (length-set c.loop-trees.row 3 c.loop-trees.trees ∙ i.directing.long)) in
    let e = direct_ends d (omega arith) in
    wrote_room c.requires.size_in_bounds e.1 e.0 (w.wrote.same_reference ∙ i.same_reference)
