-- `lines::answers::write_word`: the length, the word, and then the number.
use mathlib.Core.Path.{◌≡◌, sym, ◌∙◌}
use mathlib.Core.List.{◌++◌}
use Prim.Native.Nat.{◌+◌}
use native.Mathlib.Omega.{arith}
use lib.ListN.{length, length-append}
use Rattle.writer.proofs.Writing.{wrote_all, wrote_then, whole_fits, whole_short, whole_wrote}
use Rattle.text.proofs.Laws.{decimal_count}
use Rattle.lines.specs.Lines.{field_text}
use Rattle.lines.proofs.Laws.{field_count}
use Rattle.lines.proofs.answers.write_word.Goals as goal

pub overflow_add-whole : goal.overflow_add-whole
overflow_add-whole c = omega (arith, decimal_count c.args.n)

pub returns-then-too_short : goal.returns-then-too_short
returns-then-too_short c =
    let a = c.args in
    let n : length a.word.now + c.field_length.result ≡ length (a.word.now ++ field_text a.n 10) = omega (arith, length-append a.word.now (field_text a.n 10), field_count a.n 10) in
    let p = whole_short a.writer.now (a.word.now ++ field_text a.n 10) n (sym c.too_short.ensures ∙ c.if-too_short.true) in
    record { result_value = p.0; wrote = p.1 }

pub write_field-requires : goal.write_field-requires
write_field-requires c =
    let a = c.args in
    let l = length-append a.word.now (field_text a.n 10) in
    let n : length a.word.now + c.field_length.result ≡ length (a.word.now ++ field_text a.n 10) = omega (arith, field_count a.n 10) in
    let r = whole_fits a.writer.now (a.word.now ++ field_text a.n 10) n (sym c.too_short.ensures ∙ c.if-too_short.false) in
    let w = wrote_all c.bytes.ensures.wrote (omega arith) in
    omega (arith, w.place, w.same_length)

pub returns : goal.returns
returns c =
    let a = c.args in
    let n : length a.word.now + c.field_length.result ≡ length (a.word.now ++ field_text a.n 10) = omega (arith, length-append a.word.now (field_text a.n 10), field_count a.n 10) in
    let t = sym c.too_short.ensures ∙ c.if-too_short.false in
    let r = whole_fits a.writer.now (a.word.now ++ field_text a.n 10) n t in
    let p = whole_wrote a.writer.now (a.word.now ++ field_text a.n 10) n t (wrote_then c.bytes.ensures.wrote (λ _. c.write_field.ensures) r) in
    record { result_value = p.0; wrote = p.1 }
