use mathlib.Core.Path.{◌≡◌, refl, sym, ◌∙◌}
use Prim.Native.Nat.{◌≤◌, ◌+◌}
use native.Mathlib.Omega.{arith}
use lib.ListN.{take, length, length-set}
use borrow.Author.Rules.{rules}
use Rattle.small_requests.specs.Inside.Rows.{row_length}
use Rattle.small_requests.proofs.Choosing.{below_fits, choose_begins, choose_room, choose_again, choose_ends, whole_written, shapes_over}
use Rattle.writer.proofs.Writing.{wrote_room}
use Rattle.small_requests.proofs.+write_shapes.Goals as goal

pub returns-then-entries-eq0 : goal.returns-then-entries-eq0
returns-then-entries-eq0 t c =
    let a = c.args in
    let r = c.requires.row_len in
    record {
      wrote = whole_written a.row.now a.done a.rest.id a.rest.entries a.rest.trees c.if-entries-eq0.true r.3 (omega (arith, r.1)) r.0 c.requires.due_in_bounds c.bytes.ensures.wrote;
      row_value = refl;
    }

pub returns-then-trees-eq0 : goal.returns-then-trees-eq0
returns-then-trees-eq0 t c =
    let a = c.args in
    record {
      wrote = shapes_over (take a.done a.row.now) a.rest.id a.rest.entries a.rest.trees a.writer.now (omega arith) c.if-trees-eq0.true c.requires.due_in_bounds;
      row_value = refl;
    }

pub loop-k-init : goal.loop-k-init
loop-k-init t c =
    let a = c.args in
    let r = c.requires.row_len in
    record {
      choosing = choose_begins a.row.now a.writer.now.buffer.now a.writer.now.at a.done a.rest.id a.rest.trees a.rest.entries (omega arith) r.0 (omega arith) r.3 c.requires.due_in_bounds;
      same_reference = refl;
    }

pub write_shapes-requires : goal.write_shapes-requires
write_shapes-requires t c =
    let a = c.args in
    let r = c.requires.row_len in
    let l = c.loop-k in
    let h : l.k + a.rest.trees ≤ a.rest.entries = omega arith in
    let f = below_fits a.done a.rest.id a.rest.trees a.rest.entries l.k t c.decreases r.1 r.2 (omega arith) h in
    let n = length-set l.row (a.done + 2) l.k ∙ l.invariant.choosing.long in
    (f.0, ((n, f.1, f.2, f.3), choose_room l.invariant.choosing h f.4))

pub loop-k-preserved : goal.loop-k-preserved
loop-k-preserved t c =
    let a = c.args in
    let l = c.loop-k in
    let n : a.done + 3 ≤ row_length = omega arith in
    let h : l.k + a.rest.trees ≤ a.rest.entries = omega arith in
    let e = c.write_shapes.ensures in
    let s : length c.write_shapes.new.row ≡ row_length = search rules in
    record {
      choosing = choose_again l.invariant.choosing h n e.wrote.place e.wrote.buffer e.row_value (s ∙ sym (length-set l.row (a.done + 2) l.k ∙ l.invariant.choosing.long));
      same_reference = e.wrote.same_reference ∙ l.invariant.same_reference;
    }

-- the loop isn't entered
pub returns-else-trees-eq0 : goal.returns-else-trees-eq0
returns-else-trees-eq0 t c = absurd (omega arith)

pub returns-else-trees-eq0-2 : goal.returns-else-trees-eq0-2
returns-else-trees-eq0-2 t c =
    let a = c.args in
    let r = c.requires.row_len in
    let l = c.loop-k in
    let n : a.done + 3 ≤ row_length = omega arith in
    let h : l.k + a.rest.trees ≤ a.rest.entries = omega arith in
    let w = c.write_shapes.ensures in
    let s : length c.write_shapes.new.row ≡ row_length = search rules in
    let d = choose_again l.invariant.choosing h n w.wrote.place w.wrote.buffer w.row_value (s ∙ sym (length-set l.row (a.done + 2) l.k ∙ l.invariant.choosing.long)) in
    let e = choose_ends a.row.now d (omega arith) (omega arith) (omega arith) r.3 in
    record { wrote = wrote_room c.requires.due_in_bounds e.1 e.0 (w.wrote.same_reference ∙ l.invariant.same_reference); row_value = e.2 }
